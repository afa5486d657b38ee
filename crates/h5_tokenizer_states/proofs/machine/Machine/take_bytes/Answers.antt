use Rattle.std.proofs.Common.{◌≡◌, arith, refl, sym, ap, ◌∙◌, string_bytes}
use Rattle.h5_tokenizer_states.specs.MachineText.{MachineText}
use Rattle.h5_tokenizer_states.specs.Runs.{run_of}
use Rattle.h5_tokenizer_states.proofs.CutLaws.{cut_run, dropped_narrow, narrow_here, narrow_behind}
use Rattle.h5_tokenizer_states.proofs.PassLaws.{took_nothing, took_run}
use Rattle.h5_tokenizer_states.proofs.machine.Machine.take_bytes.Goals as goal

pub split_at-requires : goal.split_at-requires
split_at-requires c =
    cut_run c.run_of.result _ _ _ refl c.utf8.rest c.count_run-n.ensures.within (omega arith) c.count_run-n.ensures.taken c.count_run-n.ensures.stops

pub returns-then-drops_next-clause-passes : goal.returns-then-drops_next-clause-passes
returns-then-drops_next-clause-passes c = took_nothing _ _ _

pub returns-then-drops_next-clause-narrow : goal.returns-then-drops_next-clause-narrow
returns-then-drops_next-clause-narrow c = λ wide some. dropped_narrow _ _ (sym c.drops_next.ensures ∙ c.if-drops_next.true)

pub returns-then-n-eq0-clause-passes : goal.returns-then-n-eq0-clause-passes
returns-then-n-eq0-clause-passes c = took_nothing _ _ _

pub returns-then-n-eq0-clause-narrow : goal.returns-then-n-eq0-clause-narrow
returns-then-n-eq0-clause-narrow c =
    narrow_here c.args.self.now.at c.run_of.result _ _ _ (c.run_of.ensures ∙ ap (λ (m : MachineText). run_of m.at) c.self.view_is) refl c.if-n-eq0.true c.count_run-n.ensures.stops

pub returns-clause-passes : goal.returns-clause-passes
returns-clause-passes c =
    let same : c.run_of.result ≡ run_of c.args.self.now.at = c.run_of.ensures ∙ ap (λ (m : MachineText). run_of m.at) c.self.view_is in
    took_run c.args.self.now c.add_run.new.self c.pass_run.new.self c.args.rest.now c.split_at.result.1.now c.split_at.result.0.now (string_bytes c.args.out.now) (string_bytes c.add_run.new.out) c.count_run-n.result.0 c.count_run-n.result.1
    c.split_at.ensures.front c.split_at.ensures.back (omega (arith, c.split_at.ensures.front_len)) (sym c.drops_next.ensures ∙ c.if-drops_next.false)
    (rw same at c.count_run-n.ensures.taken) c.count_run-n.ensures.lines c.in_ok-add_run.ensures.parts c.in_ok-add_run.ensures.put c.pass_run.ensures.fits c.pass_run.ensures.place

pub returns-clause-narrow : goal.returns-clause-narrow
returns-clause-narrow c =
    narrow_behind c.args.self.now.at c.add_run.new.self.at _ c.run_of.result _ _ _ _ (c.run_of.ensures ∙ ap (λ (m : MachineText). run_of m.at) c.self.view_is) refl c.split_at.ensures.back
    (ap (λ (m : MachineText). m.at) c.in_ok-add_run.ensures.parts) c.pass_run.ensures.at c.count_run-n.ensures.stops
