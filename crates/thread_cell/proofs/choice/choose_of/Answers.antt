use Rattle.std.proofs.Common.{◌<◌, length, None, IfSome, sym, subst}
use Rattle.net_model.specs.Parts.{NetParts}
use Rattle.net_tables.specs.Known.{known_publications}
use Rattle.net_tables.specs.Found.{publication_at}
use Rattle.thread_versions.specs.Ends.{matched_in}
use Rattle.thread_cell.specs.declared.choice.Choice.TheVariants.{Other}
use Rattle.thread_cell.specs.Ahead.{IsChoiceOfBy, IsJudged}
use Rattle.thread_cell.specs.Looking.{IsPublicationIn}
use Rattle.thread_cell.proofs.Aheads.{carries-none, choice-of, publication-says}
use Rattle.thread_cell.proofs.choice.choose_of.Goals as goal

pub returns-in-None : goal.returns-in-None
returns-in-None c publisher shown judged =
    subst (λ o. IsChoiceOfBy c.args.core.now publisher o c.args.load.now Other) (sym c.in-Some.is)
    (carries-none c.args.core.now.net c.args.load.now (matched_in c.in-Some.matched.ahead.now)
    (subst (λ (n : NetParts). IsPublicationIn n c.args.load.now None) c.tables.ensures c.in-None.ensures))

pub returns-in-Some-publication_in : goal.returns-in-Some-publication_in
returns-in-Some-publication_in c publisher shown judged =
    let f = c.choose.ensures publisher (subst (λ o. IfSome o (IsJudged publisher)) c.in-Some.is judged) in
    subst (λ o. IsChoiceOfBy c.args.core.now publisher o c.args.load.now c.choose.result) (sym c.in-Some.is)
    (choice-of c.args.core.now publisher c.in-Some.matched.ahead.now shown.pairs (publication_at c.args.core.now.net c.in-Some-publication_in.number) f.0 f.1 c.args.load.now
    (publication-says c.args.core.now c.args.load.now c.in-Some-publication_in.number c.in-Some-publication_in.ensures.0
    (subst (λ (n : NetParts). c.in-Some-publication_in.number < length (known_publications 1 n.clients)) c.tables.ensures c.in-Some-publication_in.ensures.1)) c.choose.result f.2)
