-- A search for a needle tells whether its bytes stand in the haystack.
use Rattle.std.proofs.Common.{◌≡◌, ℕ, ◌+◌, ◌≤◌, ◌<◌, Bool, true, false, refl, sym, ap, ◌∙◌, arith, List, ◌++◌, length, take, drop, length-append, Option, Some, None, take-append-drop}
use Rattle.std.specs.Prelude.{is_some}
use Rattle.std.proofs.Math.Seq.{drop-append_seam, take-append_seam}
use Rattle.memchr.specs.Find.{OccursAt, FindsNeedle}
use Rattle.memchr.proofs.lemmas.MatchLemmas.{OccursAt-from_part, OccursAt-split}
use Rattle.filter_constraints.specs.Bytes.{has_part}
use Rattle.filter_constraints.proofs.BytesLemmas.{has_part-tells, has_part-told}
use Rattle.base.proofs.Bools.{false-from-not-true}

occurs : (x u before rest : List ℕ) → x ≡ before ++ (u ++ rest) → OccursAt x u (length before)
occurs x u before rest e =
    let fits : length before + length u ≤ length x = omega (arith, ap length e, length-append before (u ++ rest), length-append u rest) in
    OccursAt-from_part x u (length before) fits
    (ap (λ y. take (length u) (drop (length before) y)) e ∙ ap (take (length u)) (drop-append_seam before (u ++ rest)) ∙ take-append_seam u rest)

pub is_found : (x u : List ℕ) (r : Option ℕ) → FindsNeedle x u 0 r → is_some r ≡ has_part x u
is_found x u None h = false-from-not-true (has_part x u) (λ t.
    let w = has_part-tells x u t in
    let o = occurs x u w.0 w.1 w.2 in
    let fits : length w.0 < length x + 1 = omega (arith, o.fits) in
    h (length w.0) (omega arith) fits o)
is_found x u (Some k) h =
    sym (has_part-told x u (take k x) (drop (k + length u) x)
    (sym (take-append-drop k x) ∙ ap (λ y. take k x ++ y) (OccursAt-split x u k h.1)))
