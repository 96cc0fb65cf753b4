use Rattle.std.proofs.Common.{◌≡◌, ◌∙◌, Bool, true, false, refl}
use Rattle.std.specs.Str.{is_utf8}
use Rattle.std.proofs.lemmas.Str.{IsUtf8-from_is_utf8, is_utf8-from_IsUtf8}
use Rattle.filter_values.proofs.text.bad_utf8.Goals as goal

pub returns-in-Ok : goal.returns-in-Ok
returns-in-Ok c = is_utf8-from_IsUtf8 _ c.in-Ok.ensures.cases.1

no_text : (b : Bool) → (b ≡ true → ⊥) → b ≡ false
no_text true h = absurd (h refl)
no_text false h = refl

pub returns-in-Err : goal.returns-in-Err
returns-in-Err c =
    let a = c.in-Err.ensures.cases in
    (no_text (is_utf8 c.args.bytes.now) (λ t. a.0 (IsUtf8-from_is_utf8 c.args.bytes.now t)), c.valid_up_to.ensures ∙ c.in-Err.ensures.valid_len)
