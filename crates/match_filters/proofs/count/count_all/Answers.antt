use Rattle.std.proofs.Common.{◌≡◌, ◌+◌, ◌*◌, ◌%◌, ◌==◌, ◌∙◌, inl, inr, ℕ, Bool, cond, take, get_or, length, sym, ap, subst, arith}
use Rattle.std.proofs.lemmas.Bool.{cases_lt, cases_eq}
use Rattle.base.proofs.Numbers.{eqb-self, neq-eqb}
use Rattle.match_index.proofs.Tallies.{tally-at, tally-more}
use Rattle.match_cells.specs.Counts.{goal_at}
use Rattle.match_filters.specs.Hits.{hits_of}
use Rattle.match_filters.proofs.count.count_all.Goals as goal

pub count_one-requires : goal.count_one-requires
count_one-requires c =
    let found = c.args.found.now in
    let i = c.loop-id.id-index in
    let id : ℕ = get_or found i 0 in
    elim (cases_lt id (64 * length c.args.counts.now)) [
      | inl l ↦ omega (arith, l, c.loop-id.invariant.length)
      | inr l ↦ absurd (omega (arith, c.requires.known id l, tally-at (λ x. x == id) found i 0 c.loop-id-test.true (eqb-self id)))
    ]

pub loop-id-preserved : goal.loop-id-preserved
loop-id-preserved c =
    let found = c.args.found.now in
    let i = c.loop-id.id-index in
    let id : ℕ = get_or found i 0 in
    let counts : (k : ℕ) → goal_at c.count_one.new.counts k ≡ hits_of k (take (i + 1) found) % 32 = λ k.
    (let more = tally-more (λ x. x == k) found i 0 c.loop-id-test.true in
    elim (cases_eq k id) [
      | inl e ↦
          let own = ap {B = ℕ} (λ (b : Bool). cond b 1 0) (ap (λ (n : ℕ). id == n) e ∙ eqb-self id) in
          let new : goal_at c.count_one.new.counts k ≡ (goal_at c.loop-id.counts k + 1) % 32 = subst (λ (n : ℕ). goal_at c.count_one.new.counts n ≡ (goal_at c.loop-id.counts n + 1) % 32) (sym e) c.count_one.ensures.more in
          omega (arith, more, own, new, c.loop-id.invariant.counts k)
      | inr n ↦
          let own = ap {B = ℕ} (λ (b : Bool). cond b 1 0) (neq-eqb id k (λ e. n (sym e))) in
          omega (arith, more, own, c.count_one.ensures.others k n, c.loop-id.invariant.counts k)
    ]) in
    record { length = c.count_one.ensures.length ∙ c.loop-id.invariant.length; counts = counts }
