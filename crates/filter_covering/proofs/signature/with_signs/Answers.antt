use Rattle.std.proofs.Common.{◌≡◌, ◌∷◌, ◌++◌, [], rules, w64, sym, ap, subst, ◌∙◌}
use Rattle.std.specs.Prelude.{unsigned_abs}
use Rattle.std.proofs.lemmas.Int.{to_z-of_z}
use Rattle.filter_constraints.specs.declared.normal.Normal.TheVariants as normals
use Rattle.filter_constraints.specs.Constraint.{form_of}
use Rattle.filter_covering.specs.Signatures.{value_signs}
use Rattle.filter_covering.proofs.Signs.{two-marks, int-sign, time-sign, text-sign}
use Rattle.filter_covering.proofs.signature.with_signs.Goals as goal

pub returns-in-Int-Eq : goal.returns-in-Int-Eq
returns-in-Int-Eq c =
    let d = c.args.constraint.now in
    let form = form_of d.kind d.op d.operand in
    let size : c.size.result ≡ unsigned_abs c.in-Int-Eq.number = c.size.ensures ∙ ap unsigned_abs (to_z-of_z w64 c.in-Int-Eq.number (search rules)) in
    two-marks c.args.marks c.name_bit-named.result c.number_bit.result d.name (c.size.result ∷ []) form c.name_bit-named.ensures.place c.name_bit-named.ensures.within c.number_bit.ensures.place c.number_bit.ensures.within
    (subst (λ z. value_signs d.name form ≡ (d.name ++ z ∷ []) ∷ []) (sym size)
    (int-sign d.name d.kind c.normal.result c.in-Int-Eq.number form (c.in-Int-Eq.is ∙ ap normals.Int c.in-Int-Eq.field-0-is) c.normal.ensures.kind c.normal.ensures.form))

pub returns-in-Time-Eq : goal.returns-in-Time-Eq
returns-in-Time-Eq c =
    let d = c.args.constraint.now in
    let form = form_of d.kind d.op d.operand in
    two-marks c.args.marks c.name_bit-named.result c.number_bit-in-Time-Eq.result d.name (c.in-Time-Eq.number ∷ []) form c.name_bit-named.ensures.place c.name_bit-named.ensures.within c.number_bit-in-Time-Eq.ensures.place c.number_bit-in-Time-Eq.ensures.within
    (time-sign d.name d.kind c.normal.result c.in-Time-Eq.number form (c.in-Time-Eq.is ∙ ap normals.Time c.in-Time-Eq.field-0-is) c.normal.ensures.kind c.normal.ensures.form)

pub returns-in-Str-Eq-default : goal.returns-in-Str-Eq-default
returns-in-Str-Eq-default c =
    let d = c.args.constraint.now in
    let form = form_of d.kind d.op d.operand in
    two-marks c.args.marks c.name_bit-named.result c.text_bit.result d.name c.in-Str-Eq-default.text.now form c.name_bit-named.ensures.place c.name_bit-named.ensures.within c.text_bit.ensures.place c.text_bit.ensures.within
    (text-sign d.name d.kind c.normal.result c.in-Str-Eq-default.text form (c.in-Str-Eq-default.is ∙ ap (λ z. normals.Str z c.in-Str-Eq-default.text) c.in-Str-Eq-default.field-0-is) c.normal.ensures.kind c.normal.ensures.form)
