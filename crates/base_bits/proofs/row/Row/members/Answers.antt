use Rattle.std.proofs.Common.{◌≡◌, ◌↔◌, ◌∙◌, ℕ, nat_lt, List, Result, Ok, Err, IfOk, sym, ap}
use Rattle.base.specs.Sets.{Has, IsRising}
use Rattle.base_bits.specs.Words.{bit}
use Rattle.base_bits.specs.Rows.{Numbers}
use Rattle.base_bits.proofs.Lists.{listed-members}
use Rattle.base_bits.proofs.row.Row.members.Goals as goal

pub returns : goal.returns
returns c = go c.listed.result (λ list. list.items) c.listed.ensures.rising (rw c.deref.ensures.value at c.listed.ensures.exact)
  where
    go : {X E : Type 0} (r : Result X E) (items : X → List ℕ) → IfOk r (λ v. IsRising nat_lt (items v)) → IfOk r (λ v. (i : ℕ) → Has i (items v) ↔ (bit c.self.inside.words.items i ≡ 1)) → IfOk r (λ v. items v ≡ c.args.self.now.members)
    go (Ok v) items rising exact = sym (listed-members c.self.inside.words.items c.self.inside.width (items v) c.self.invariant rising exact) ∙ ap (λ (s : Numbers). s.members) c.self.view_is
    go (Err e) items rising exact = tt
