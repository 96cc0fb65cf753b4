use Rattle.std.proofs.Common.{◌≡◌, ◌∙◌, Some, sym, ap, subst, ℤ, ℕ, List, to_z, of_z, rules, length, arith}
use Rattle.std.specs.Int.{w64}
use Rattle.std.proofs.lemmas.Int.{to_z-of_z}
use Rattle.std.specs.Ordering.{int_cmp}
use Rattle.std.proofs.lemmas.List.{with_items_is}
use Rattle.base_bits.specs.Words.{bit}
use Rattle.match_index.specs.Pairs.{tally}
use Rattle.match_cells.specs.Places.{missed_by}
use Rattle.match_numbers.specs.Keys.{key_of}
use Rattle.match_numbers.specs.Operands.{AreOf, is_of, is_missed}
use Rattle.match_numbers.proofs.part.Part.read_number.Goals as goal

pub returns : goal.returns
returns c of k =
    let said = c.self.invariant.0.said in
    let cuts = c.self.inside.cuts.items in
    let groups = c.self.inside.groups.value.items in
    let v = c.args.value.now in
    let n = c.requires in
    let row = with_items_is c.resize.new.self c.read_row.new.into (omega arith) in
    let of2 : AreOf v c.self.inside.told.value = subst (AreOf v) (sym c.self.view_is) of in
    let asks = said.asks v n of2 k ∙ ap (tally (is_of k)) c.self.view_is in
    let key : ℤ = to_z w64 (of_z w64 c.key_of.result) in
    let at : key ≡ key_of (Some v) = to_z-of_z w64 c.key_of.result (search rules) ∙ c.key_of.ensures in
    let misses : missed_by int_cmp key k cuts groups ≡ tally (is_missed v k) c.args.self.now = ap (λ (z : ℤ). missed_by int_cmp z k cuts groups) at ∙ said.misses v n of2 k ∙ ap (tally (is_missed v k)) c.self.view_is in
    let b = (rw (c.deref.ensures.value) at c.read_row.ensures.bits) (length c.self.inside.cells.past.first) groups said.paired c.self.invariant.0.cut k in
    let same = ap (λ (words : List ℕ). bit words k) row in
    (λ t. let x = b.0 (sym same ∙ t) in (omega (arith, x.0, asks), sym misses ∙ x.1), λ t. same ∙ b.1 (omega (arith, t.0, asks), misses ∙ t.1))
