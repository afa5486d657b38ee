-- The code's openings, with texts as lists of bytes.
use Rattle.h5_plain_tokenizer.specs.Front as front
use Rattle.h5_plain_tokenizer.specs.declared.front.Opening.{Opening}
use Rattle.h5_plain_tokenizer.specs.declared.front.Opening.TheVariants.{Begins, Gives, Null, Turns}

abbrev pub opening_of : Opening → front.Opening
opening_of (Begins construct) = front.Begins construct
opening_of (Gives text) = front.Gives text.now
opening_of Null = front.Null
opening_of (Turns mode) = front.Turns mode
