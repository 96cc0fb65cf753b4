use Rattle.std.proofs.Common.{◌∙◌, sym, subst}
use Rattle.std.specs.Prelude.{IfOk, IfSome}
use Rattle.thread_cell.specs.Cell.{CellParts}
use Rattle.thread_cell.specs.Asked.{Suits}
use Rattle.thread_cell.specs.Ahead.{AnswersBy, IsJudged}
use Rattle.thread_cell.proofs.Keeping.{some-server, suits-held}
use Rattle.thread_cell.proofs.Aheads.{kept-by}
use Rattle.thread_cell.proofs.cell.Cell.turn_by.Goals as goal

pub turn_held-requires-clause-stands : goal.turn_held-requires-clause-stands
turn_held-requires-clause-stands g c = some-server c.self.inside.tables.now c.self.inside.root c.self.inside.journal.entries c.self.inside.held c.self.invariant.0

pub invariant_of-self : goal.invariant_of-self
invariant_of-self g c = (
  kept-by c.self.inside.tables.now c.self.inside.root c.self.inside.journal.entries c.self.inside.held c.self.invariant.0 c.args.what c.args.matched c.turn_held.new.held c.turn_held.new.journal.entries c.turn_held.result c.turn_held.ensures.answers c.turn_held.ensures.still c.turn_held.ensures.held,
  c.turn_held.ensures.kept ∙ c.self.invariant.1,
)

pub turn_held-requires-clause-suits : goal.turn_held-requires-clause-suits
turn_held-requires-clause-suits g c =
    suits-held c.self.inside.tables.now c.self.inside.root c.self.inside.journal.entries c.self.inside.held c.self.invariant.0 c.args.what (subst (λ (z : CellParts). Suits c.args.what z.root) (sym c.self.view_is) c.requires.suits) c.self.invariant.0.net_is

pub turn_held-requires-clause-judged : goal.turn_held-requires-clause-judged
turn_held-requires-clause-judged g c = subst (λ (z : CellParts). IfSome c.args.matched (IsJudged z.held.publisher)) (sym c.self.view_is) c.requires.judged

pub returns-clause-answers : goal.returns-clause-answers
returns-clause-answers g c =
    subst (λ (z : CellParts). IfOk c.turn_held.result (AnswersBy z.root.phase c.args.what c.args.matched z.held c.turn_held.new.held z.journal c.turn_held.new.journal.entries)) c.self.view_is c.turn_held.ensures.answers
