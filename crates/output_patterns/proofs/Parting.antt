-- An input has one document part, as far as its lines go, and one list of lines behind it.
use Rattle.std.proofs.Common.{◌≡◌, inl, inr, ℕ, ◌≤◌, List, length, sym, ap, ◌∙◌, arith}
use Rattle.std.specs.Prelude.{codes}
use Rattle.document_reader.specs.Lines.{lines}
use Rattle.document_reader.proofs.Parting.{before_short, no_such, one_cut}
use Rattle.output_patterns.specs.Cut.{IsParted}

pub one_part : (bytes d d' : List ℕ) (l l' : List (List ℕ)) → IsParted bytes d l → IsParted bytes d' l' → (lines d ≡ lines d') × (l ≡ l')
one_part bytes d d' l l' (inl (after, c, e)) (inl (after', c', e')) =
    let t = one_cut (codes "patterns") (lines d) (lines d') (lines after) (lines after') c.first c'.first (sym c.cut ∙ c'.cut) in
    (t.0, e ∙ t.1 ∙ sym e')
one_part bytes d d' l l' (inl (after, c, e)) (inr (none, f, g)) = absurd (no_such (codes "patterns") (lines d) (lines after) (rw (← c.cut) none))
one_part bytes d d' l l' (inr (none, f, g)) (inl (after, c, e)) = absurd (no_such (codes "patterns") (lines d') (lines after) (rw (← c.cut) none))
one_part bytes d d' l l' (inr (none, f, g)) (inr (none', f', g')) = (ap lines (f ∙ sym f'), g ∙ sym g')

pub part_short : (bytes d : List ℕ) (l : List (List ℕ)) → IsParted bytes d l → length d ≤ length bytes
part_short bytes d l (inl (after, c, e)) = before_short (codes "patterns") bytes d after c
part_short bytes d l (inr (none, f, g)) = omega (arith, ap length f)
