use Rattle.std.proofs.Common.{◌≡◌, ◌≤◌, List, [], length, sym, ap, subst, ◌∙◌, arith}
use Rattle.std.specs.Prelude.{IsPermutation}
use Rattle.filter_types.specs.Notice.{Attribute, first_twice}
use Rattle.document_script.specs.Command.{fits}
use Rattle.document_script.proofs.CommandLaws.{some_fits, publish_many, publish_twice, publish_none, publish_wide}
use Rattle.document_script.proofs.KeptLaws.{few_given, many_given}
use Rattle.document_script.proofs.limits.notice_of.Goals as goal

pub returns-then-parts : goal.returns-then-parts
returns-then-parts c = λ given is. publish_wide given (sym is.beyond ∙ c.if-parts.true)

pub returns-in-Ok : goal.returns-in-Ok
returns-in-Ok c = λ given is.
    let few : length (fits given) ≤ 64 = few_given (c.args.parts.is_full, c.args.parts.kept.items) (fits given) is.kept (λ l. let h = c.in-Ok.ensures.too_many.1 l in cc) in
    let f = is.kept.few few in (
      publish_none given (sym is.beyond ∙ c.if-parts.false)
          (λ l. omega (arith, l, few))
          (λ i l t. let h = (c.in-Ok.ensures.twice i).1 (subst (λ (z : List Attribute). length z ≤ 64) (sym f) l, ap first_twice f ∙ t) in cc),
      (subst (λ (z : List Attribute). IsPermutation z c.in-Ok.notice) f c.in-Ok.ensures.same, c.in-Ok.ensures.rising),
    )

pub returns-in-Err-TooMany : goal.returns-in-Err-TooMany
returns-in-Err-TooMany c = λ given is.
    publish_many given (sym is.beyond ∙ c.if-parts.false) (many_given (c.args.parts.is_full, c.args.parts.kept.items) (fits given) is.kept (c.in-Err-TooMany.ensures.too_many.0 (let h = c.in-Err-TooMany.field-0-is in cc)))

pub returns-in-Err-Twice : goal.returns-in-Err-Twice
returns-in-Err-Twice c = λ given is.
    let t = (c.in-Err-Twice.ensures.twice c.in-Err-Twice.field-0-0).0 (let h = c.in-Err-Twice.field-0-is in cc) in
    let few : length (fits given) ≤ 64 = few_given (c.args.parts.is_full, c.args.parts.kept.items) (fits given) is.kept (λ l. let n = t.0 in omega (arith, l, n)) in
    publish_twice given c.in-Err-Twice.field-0-0 (sym is.beyond ∙ c.if-parts.false) few (sym (ap first_twice (is.kept.few few)) ∙ t.1)

pub returns-in-Err-Nothing : goal.returns-in-Err-Nothing
returns-in-Err-Nothing c = λ given is.
    let none : c.args.parts.kept.items ≡ [] = c.in-Err-Nothing.ensures.nothing.0 (let h = c.in-Err-Nothing.field-0-is in cc) in
    let few : length (fits given) ≤ 64 = few_given (c.args.parts.is_full, c.args.parts.kept.items) (fits given) is.kept (λ l. let n : length c.args.parts.kept.items ≡ 0 = ap length none in omega (arith, l, n)) in
    absurd (some_fits given is.some (sym is.beyond ∙ c.if-parts.false) (sym (is.kept.few few) ∙ none))
