-- The error of a call without a value, as the result of a call with one.
use Rattle.std.proofs.Common.{Result, Ok, Err}
use Rattle.h5_token.specs.declared.fault.BuildFault.{BuildFault}
use Rattle.h5_token.specs.declared.fault.BuildFault.TheVariants.{Memory}

-- the error, or `Memory` if there is none
abbrev pub fault_of : Result (Unit {0}) BuildFault → BuildFault
fault_of (Ok tt) = Memory
fault_of (Err f) = f
