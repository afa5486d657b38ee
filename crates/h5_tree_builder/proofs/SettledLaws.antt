-- `Settles` of an equal world, and in other words.
use Rattle.std.proofs.Common.{◌≡◌, Bool, Result, IfOk, subst}
use Rattle.std.specs.declared.alloc.AllocError.{AllocError}
use Rattle.h5_interface.specs.declared.sink.TreeSink.{Ghosts}
use Rattle.h5_builder_spec.specs.Settle.{Settled}
use Rattle.h5_builder_spec.specs.World.{World}
use Rattle.h5_builder_state.specs.Steps.{errors_of, world_of}
use Rattle.h5_builder_state.specs.declared.state.State.{State}
use Rattle.h5_tree_builder.specs.Chains.{CameTo, Settles}
use Rattle.h5_tree_builder.specs.declared.turns_taken.Taken.{Taken}

pub settles_as : {S H O : Type 0} (law : Ghosts S H O) (defined other : World → Settled) (counted is_counted : Bool) (sink new_sink : S) (state before new_state : State H) (result : Result (Taken H) AllocError)
    → defined (world_of law sink state) ≡ other (world_of law sink before) → counted ≡ is_counted → Settles law defined counted sink state new_sink new_state result → Settles law other is_counted sink before new_sink new_state result
settles_as law defined other counted is_counted sink new_sink state before new_state result e i s = record {
  came = subst (λ c. IfOk result (λ r. CameTo law.node (other (world_of law sink before)) c (world_of law new_sink new_state) (errors_of law sink) (errors_of law new_sink) r)) i
      (subst (λ d. IfOk result (λ r. CameTo law.node d counted (world_of law new_sink new_state) (errors_of law sink) (errors_of law new_sink) r)) e s.came);
  sound = s.sound;
  fits = s.fits;
}
