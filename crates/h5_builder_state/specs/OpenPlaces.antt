-- The places of open elements on the stack, counted from the root.
use Rattle.std.specs.Prelude.{◌≡◌, ℕ, length}
use Rattle.h5_builder_spec.specs.formatting.Adoption.{older_than}
use Rattle.h5_builder_spec.specs.stack.Order.{IsIn}
use Rattle.h5_builder_spec.specs.World.{World}

-- an element is open, at this place
pub record IsOpenAt (n place : ℕ) (w : World) : Type 0 where
  pub is_open : IsIn n w.stack
  pub here : place ≡ length (older_than n w.stack)
