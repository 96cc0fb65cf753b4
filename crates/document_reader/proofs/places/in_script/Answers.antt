use Rattle.std.proofs.Common.{◌≡◌, true, List, ℕ, ap, subst, sym, ◌∙◌}
use Rattle.std.specs.Prelude.{None, Some}
use Rattle.std.specs.Option.{is_some}
use Rattle.document_script.specs.Form.{verb_named}
use Rattle.document_script.specs.Tokens.{first_word, tokens}
use Rattle.document_reader.specs.Answer.{StepsByRule}
use Rattle.document_reader.specs.Lines.{words}
use Rattle.document_reader.specs.Rules.{command_rule}
use Rattle.document_reader.proofs.Scripting.{no_token, verb_section}
use Rattle.document_reader.proofs.places.in_script.Goals as goal

pub returns-in-None : goal.returns-in-None
returns-in-None c =
    let h : first_word (tokens c.args.line.now) ≡ None = ap (λ (z : List ℕ). first_word (tokens z)) (sym c.in_ok-cut.ensures) ∙ sym c.in-None.ensures in
    no_token c.args.state.now c.args.line.now (words c.args.line.now) (first_word (tokens c.args.line.now)) h c.requires.kept

pub returns-then-is_some : goal.returns-then-is_some
returns-then-is_some c =
    let h : first_word (tokens c.args.line.now) ≡ Some c.in-Some.token.now = ap (λ (z : List ℕ). first_word (tokens z)) (sym c.in_ok-cut.ensures) ∙ sym c.in-Some.ensures in
    let v : is_some (verb_named c.in-Some.token.now) ≡ true = (let t = c.if-is_some.true in let e = c.is_some.ensures in let d = c.verb_named.ensures in cc) in
    rw (verb_section c.args.state.now c.args.line.now c.in-Some.token.now (first_word (tokens c.args.line.now)) (words c.args.line.now) h v c.requires.kept)
    (subst (λ (z : List ℕ). StepsByRule c.command.result c.command.new.state (command_rule c.args.state.now z)) c.in_ok-cut.ensures c.command.ensures)
