use Rattle.std.proofs.Common.{◌≡◌, ◌∙◌, ℕ, ◌+◌, ◌*◌, ◌<◌, [], ◌∷◌, ◌&&◌, Bor, ap, append-nil, arith, false, get_or, map, refl, rules, sym}
use Rattle.std.specs.List.{list_any}
use Rattle.std.specs.Option.{option_map}
use Rattle.h5_selectors.specs.Query.{context, holds_by}
use Rattle.h5_selectors.specs.Rows.{node_of}
use Rattle.h5_selectors.specs.Waiting.{size_of}
use Rattle.h5_selectors.specs.Ways.{led}
use Rattle.h5_selectors.specs.declared.formula.Formula.{Formula}
use Rattle.h5_selectors.proofs.Selection.{if_ok}
use Rattle.h5_selectors.proofs.Stations.{popped, stations_along}
use Rattle.h5_selectors.proofs.tables.+narrowed.Goals as goal

pub narrowed_alone-returns-in_ok-among-in-Nth-clause-table : goal.narrowed_alone-returns-in_ok-among-in-Nth-clause-table
narrowed_alone-returns-in_ok-among-in-Nth-clause-table g t c = rw c.in-Nth.is (rw c.deref-in-Nth-2.ensures at c.placed.ensures.table)

pub narrowed-narrowed_to-requires : goal.narrowed-narrowed_to-requires
narrowed-narrowed_to-requires g t c =
    let split = popped c.back.stations.items c.pop.new.self.items c.in-Some.station c.back.invariant.0 c.in-Some.ensures.items c.back.invariant.1.0 in
    let along = stations_along c.args.formula.now (map (λ (f : Bor Formula). f.now) c.pop.new.self.items) c.in-Some.station.now c.back.invariant.0 split in
    let smaller : 4 * size_of c.in-Some.station.now + 2 < t = omega (arith, along.1, c.decreases) in
    λ κs le. (smaller, (le.0, (le.1, (search rules, (search rules, rw (c.as_slice-in-Some.ensures.value, along.0) c.back.invariant.1.1)))))

pub narrowed-back-preserved : goal.narrowed-back-preserved
narrowed-back-preserved g t c =
    let split = popped c.back.stations.items c.pop.new.self.items c.in-Some.station c.back.invariant.0 c.in-Some.ensures.items c.back.invariant.1.0 in
    let test = (λ (k : ℕ). holds_by (context (g.T.Tree.forest c.args.query.now.tree.now) c.args.query.now.is_quirky (option_map g.T.Tree.number c.args.query.now.scope)) c.in-Some.station.now (node_of g.T.Tree.number c.args.rows.now k)) in (
      c.in-Some.station.now ∷ c.back.invariant.0,
      (
        sym split,
        (
          omega (arith, c.in_ok-into.ensures.count, c.in_ok-into.into.ok.0),
          λ k lt. c.in_ok-into.ensures.table k lt ∙ ap (λ b. b && test k) (ap (λ list. get_or list k false) c.as_slice.ensures.value ∙ c.in_ok-all.ensures.all k (omega (arith, lt, c.requires.count))),
        ),
      ),
    )

pub narrowed-back-init : goal.narrowed-back-init
narrowed-back-init g t c = ([], (append-nil (map (λ (f : Bor Formula). f.now) c.in_ok-stations.stations.items) ∙ c.in_ok-stations.ensures, tt))

pub narrowed_to-returns-in-Leads : goal.narrowed_to-returns-in-Leads
narrowed_to-returns-in-Leads g t c =
    let query = (context (g.T.Tree.forest c.args.query.now.tree.now) c.args.query.now.is_quirky (option_map g.T.Tree.number c.args.query.now.scope)) in
    let node = node_of g.T.Tree.number c.args.rows.now in
    let step : (k : ℕ) → (get_or c.as_slice-in-Leads.result.now k false && list_any (holds_by query c.deref-in-Leads.result.now) (led c.in-Leads.way query.forest (node k))) ≡ (get_or c.down.left.items k false && holds_by query c.down.at.now (node k)) =
    λ k. rw (c.as_slice-in-Leads.ensures.value, c.in-Leads.is, c.deref-in-Leads.ensures) refl in
    record {
      count = c.leading.ensures.count;
      table = if_ok _ _ c.leading.result (λ table are k lt. are k lt ∙ step k ∙ c.down.invariant.table k lt) c.leading.ensures.table;
    }
