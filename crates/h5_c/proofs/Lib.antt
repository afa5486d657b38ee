mod AskLaws
mod CountLaws
mod Giving
mod NameWalks
