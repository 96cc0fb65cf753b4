use Rattle.std.proofs.Common.{◌≡◌, ℕ, ◌+◌, List, [], ◌++◌, ◌∷◌, drop, subst, arith}
use Rattle.std.proofs.lemmas.List.{drop_all}
use Rattle.filter_text.specs.declared.command.Command.{Command}
use Rattle.filter_text.specs.Messages.{Lists}
use Rattle.net_tables.specs.Known.{script_publications, publishes_after, published_by, script_filters, script_adverts, filters_in, adverts_in}
use Rattle.net_tables.specs.Numbered.{AreNumbered}
use Rattle.net_tables.specs.Numbering.{AreNumbers, catalogue_of}
use Rattle.net_tables.proofs.Stepping.{next_left, numbers_first, numbers_apart, numbers_all, publications_next, counted_next, numbered_next, script_end}
use Rattle.net_tables.proofs.scripts.number_script.Goals as goal

-- the numbers of the command at hand
here : (filters adverts : Lists) (ns ms : List ℕ) (script left rest : List (ℕ × Command)) (step : ℕ × Command) → left ≡ step ∷ rest
    → AreNumbers filters adverts ns ms (script_filters left ++ []) (script_adverts left ++ []) → AreNumbers filters adverts ns ms (filters_in step.1) (adverts_in step.1)
here filters adverts ns ms script left rest step at a =
    numbers_first filters adverts ns ms (filters_in step.1) (script_filters rest ++ []) (adverts_in step.1) (script_adverts rest ++ [])
    (numbers_apart filters adverts ns ms (filters_in step.1) (script_filters rest) [] (adverts_in step.1) (script_adverts rest) []
    (subst (λ z. AreNumbers filters adverts ns ms (script_filters z ++ []) (script_adverts z ++ [])) at a))

pub number-requires-clause-numbers : goal.number-requires-clause-numbers
number-requires-clause-numbers c =
    let i = c.loop-phase.phase-index in
    let script = c.args.script.now in
    let step = c.loop-phase-item.result in
    let at : drop i script ≡ step ∷ drop (i + 1) script = next_left script i step c.loop-phase-test.true c.loop-phase-item.is in
    let filters = c.requires.numbers.0 in
    let adverts = c.requires.numbers.1 in (
      filters,
      adverts,
      here filters adverts c.loop-phase.numbers.filters.now c.loop-phase.numbers.adverts.now script (drop i script) (drop (i + 1) script) step at
          (c.loop-phase.invariant.numbers filters adverts [] []
          (numbers_all filters adverts c.args.numbers.now.filters.now c.args.numbers.now.adverts.now (script_filters script) (script_adverts script) c.requires.numbers.2)),
    )

pub loop-phase-preserved : goal.loop-phase-preserved
loop-phase-preserved c =
    let i = c.loop-phase.phase-index in
    let step = c.loop-phase-item.result in
    let script = c.args.script.now in
    let rest = drop (i + 1) script in
    let ns = c.loop-phase.numbers.filters.now in
    let ms = c.loop-phase.numbers.adverts.now in
    let publisher = c.args.publisher in
    let count = c.loop-phase.count in
    let old = c.loop-phase.publications.items in
    let new = c.number.new.publications.items in
    let final = c.args.publications.now.items ++ script_publications publisher 0 script in
    let at : drop i script ≡ step ∷ rest = next_left script i step c.loop-phase-test.true c.loop-phase-item.is in
    let put : new ≡ old ++ published_by publisher count step.0 step.1 = c.in_ok-numbered.ensures.publications count (omega arith) in
    let now : new ++ script_publications publisher (publishes_after count step.1) rest ≡ final =
    publications_next old new (published_by publisher count step.0 step.1) (script_publications publisher (publishes_after count step.1) rest) final put
    (subst (λ z. old ++ script_publications publisher count z ≡ final) at c.loop-phase.invariant.publications) in
    record {
      publications = rw c.publishes_after-count.ensures now;
      counted = rw c.publishes_after-count.ensures (counted_next old new publisher count step.0 step.1 c.loop-phase.invariant.counted put);
      numbers = λ filters adverts more_filters more_adverts are. c.in_ok-numbered.ensures.left filters adverts (script_filters rest ++ more_filters) (script_adverts rest ++ more_adverts)
          (numbers_apart filters adverts ns ms (filters_in step.1) (script_filters rest) more_filters (adverts_in step.1) (script_adverts rest) more_adverts
          (subst (λ z. AreNumbers filters adverts ns ms (script_filters z ++ more_filters) (script_adverts z ++ more_adverts)) at
          (c.loop-phase.invariant.numbers filters adverts more_filters more_adverts are)));
      represents = λ filters adverts later ms2 are h. rw c.in_ok-push.ensures.items
          (numbered_next filters adverts new (script_publications publisher (publishes_after count step.1) rest) final later publisher count step rest script
          c.in_ok-numbered.numbered c.loop-phase.steps.items now
          (λ after. c.in_ok-numbered.ensures.represents filters adverts count after (omega arith)
          (here filters adverts ns ms script (drop i script) rest step at (c.loop-phase.invariant.numbers filters adverts [] []
          (numbers_all filters adverts c.args.numbers.now.filters.now c.args.numbers.now.adverts.now (script_filters script) (script_adverts script) are))))
          (λ qs. subst (λ z. AreNumbered (catalogue_of filters adverts (final ++ later)) publisher count qs z
          → AreNumbered (catalogue_of filters adverts (final ++ later)) publisher 0 (c.loop-phase.steps.items ++ qs) script) at (c.loop-phase.invariant.represents filters adverts later qs are))
          ms2 (subst (λ k. AreNumbered (catalogue_of filters adverts (final ++ later)) publisher k ms2 rest) c.publishes_after-count.ensures h));
    }

pub returns-clause-represents : goal.returns-clause-represents
returns-clause-represents c = λ filters adverts later are.
    script_end filters adverts c.loop-phase.publications.items (c.args.publications.now.items ++ script_publications c.args.publisher 0 c.args.script.now) later
    c.args.publisher c.loop-phase.count c.args.script.now c.loop-phase.steps.items c.of.result c.loop-phase.phase-index c.loop-phase-test.false c.of.ensures
    c.loop-phase.invariant.publications (λ ns. c.loop-phase.invariant.represents filters adverts later ns are)

pub returns-clause-left : goal.returns-clause-left
returns-clause-left c = λ filters adverts more_filters more_adverts are.
    subst (λ z. AreNumbers filters adverts c.loop-phase.numbers.filters.now c.loop-phase.numbers.adverts.now (script_filters z ++ more_filters) (script_adverts z ++ more_adverts))
    (drop_all c.loop-phase.phase-index c.args.script.now c.loop-phase-test.false) (c.loop-phase.invariant.numbers filters adverts more_filters more_adverts are)
