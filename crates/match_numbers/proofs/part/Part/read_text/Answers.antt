use Rattle.std.proofs.Common.{◌≡◌, ◌≤◌, ◌*◌, ◌∙◌, sym, ap, subst, ℕ, List, length, arith}
use Rattle.std.specs.Ordering.{nat_cmp}
use Rattle.std.specs.Cmp.Lexicographic.{slice_cmp}
use Rattle.std.proofs.lemmas.List.{with_items_is}
use Rattle.base_bits.specs.Words.{bit}
use Rattle.filter_values.specs.declared.value.Value.TheVariants as values
use Rattle.match_index.specs.Pairs.{tally}
use Rattle.match_cells.specs.Places.{missed_by}
use Rattle.match_cells.specs.Cells.{asked}
use Rattle.match_numbers.specs.Operands.{AreOf, is_of, is_missed}
use Rattle.match_numbers.proofs.part.Part.read_text.Goals as goal

pub returns : goal.returns
returns c of k =
    let said = c.self.invariant.1.said in
    let cuts = c.self.inside.texts.items in
    let groups = c.self.inside.text_groups.value.items in
    let x = c.args.text.now in
    let row = with_items_is c.resize.new.self c.read_row.new.into (omega arith) in
    let of2 : AreOf (values.Str x) c.self.inside.told.value = subst (AreOf (values.Str x)) (sym c.self.view_is) of in
    let own : tally (is_of k) c.self.inside.told.value ≡ tally (is_of k) c.args.self.now = ap (tally (is_of k)) c.self.view_is in
    let least : tally (is_of k) c.args.self.now ≤ asked k groups = omega (arith, own, said.least x of2 k) in
    let most : asked k groups ≤ 2 * tally (is_of k) c.args.self.now = omega (arith, own, said.most x of2 k) in
    let misses : missed_by (slice_cmp nat_cmp) c.of-sought.result.bytes.now k cuts groups ≡ tally (is_missed (values.Str x) k) c.args.self.now = ap (λ (z : List ℕ). missed_by (slice_cmp nat_cmp) z k cuts groups) c.of-sought.ensures ∙ said.misses x of2 k ∙ ap (tally (is_missed (values.Str x) k)) c.self.view_is in
    let b = (rw (c.deref.ensures.value) at c.read_row.ensures.bits) (length c.self.inside.text_cells.past.first) groups said.paired c.self.invariant.1.cut k in
    let same = ap (λ (words : List ℕ). bit words k) row in
    (λ t. let y = b.0 (sym same ∙ t) in (omega (arith, y.0, most), sym misses ∙ y.1), λ t. same ∙ b.1 (omega (arith, t.0, least), misses ∙ t.1))
