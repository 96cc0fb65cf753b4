use Rattle.std.proofs.Common.{◌≡◌, ◌<◌, ◌^◌, drop, cond}
use Rattle.std.specs.Prelude.{Some, None}
use Rattle.std.specs.List.{list_all}
use Rattle.std.specs.Str.Parse.{digits_value_after}
use Rattle.document_script.specs.Form.{is_digit, number_of_digits}
use Rattle.document_script.proofs.number.short_digits.Given as goal

abbrev pub invariant-loop-i : goal.invariant-loop-i
invariant-loop-i l = (cond (list_all is_digit (drop l.i l.bytes)) (Some (digits_value_after 10 l.sum (drop l.i l.bytes))) None ≡ number_of_digits l.bytes) × (l.sum < 10 ^ l.i)
