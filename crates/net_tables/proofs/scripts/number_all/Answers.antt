use Rattle.std.proofs.Common.{◌≡◌, ℕ, ◌+◌, List, ◌++◌, ◌∷◌, drop, suc, sym, subst, ◌∙◌, ap, arith}
use Rattle.std.specs.List.{flat_map}
use Rattle.filter_text.specs.Messages.{Lists}
use Rattle.net_model.specs.Parts.{ClientParts}
use Rattle.net_tables.specs.Known.{script_publications, known_publications, script_filters, script_adverts}
use Rattle.net_tables.specs.Numbered.{AreNumbered, AllNumbered}
use Rattle.net_tables.specs.Numbering.{AreNumbers, catalogue_of}
use Rattle.net_tables.proofs.Stepping.{next_left, numbers_first, publications_next, all_next, all_end}
use Rattle.net_tables.proofs.scripts.number_all.Goals as goal

abbrev all_filters : List ClientParts → Lists
all_filters clients = flat_map (λ client. script_filters client.script) clients

abbrev all_adverts : List ClientParts → Lists
all_adverts clients = flat_map (λ client. script_adverts client.script) clients

-- the numbers of the client at hand
here : (filters adverts : Lists) (ns ms : List ℕ) (left rest : List ClientParts) (client : ClientParts) → left ≡ client ∷ rest
    → AreNumbers filters adverts ns ms (all_filters left) (all_adverts left) → AreNumbers filters adverts ns ms (script_filters client.script) (script_adverts client.script)
here filters adverts ns ms left rest client at a =
    numbers_first filters adverts ns ms (script_filters client.script) (all_filters rest) (script_adverts client.script) (all_adverts rest)
    (subst (λ zs. AreNumbers filters adverts ns ms (all_filters zs) (all_adverts zs)) at a)

pub number_script-requires-clause-numbers : goal.number_script-requires-clause-numbers
number_script-requires-clause-numbers c =
    let i = c.loop-i.i in
    let clients = c.args.clients.now in
    let client = c.index-clients-i.result in
    let at : drop i clients ≡ client ∷ drop (i + 1) clients = next_left clients i client c.loop-i-test.true c.index-clients-i.is in
    let script : c.deref.result.now ≡ client.script = c.deref.ensures.value ∙ ap (λ z. z.script) c.client.view_is in
    let filters = c.requires.numbers.0 in
    let adverts = c.requires.numbers.1 in (
      filters,
      adverts,
      rw script (here filters adverts c.loop-i.numbers.filters.now c.loop-i.numbers.adverts.now (drop i clients) (drop (i + 1) clients) client at
          (c.loop-i.invariant.numbers filters adverts c.requires.numbers.2)),
    )

pub loop-i-preserved : goal.loop-i-preserved
loop-i-preserved c =
    let i = c.loop-i.i in
    let clients = c.args.clients.now in
    let client = c.index-clients-i.result in
    let rest = drop (i + 1) clients in
    let ns = c.loop-i.numbers.filters.now in
    let ms = c.loop-i.numbers.adverts.now in
    let old = c.loop-i.publications.items in
    let new = c.number_script.new.publications.items in
    let final = known_publications 1 clients in
    let at : drop i clients ≡ client ∷ rest = next_left clients i client c.loop-i-test.true c.index-clients-i.is in
    let script : c.deref.result.now ≡ client.script = c.deref.ensures.value ∙ ap (λ z. z.script) c.client.view_is in
    let put : new ≡ old ++ script_publications (i + 1) 0 client.script = subst (λ z. new ≡ old ++ script_publications (i + 1) 0 z) script c.in_ok-script.ensures.publications in
    let now : new ++ known_publications (suc (i + 1)) rest ≡ final =
    publications_next old new (script_publications (i + 1) 0 client.script) (known_publications (suc (i + 1)) rest) final put
    (subst (λ z. old ++ known_publications (i + 1) z ≡ final) at c.loop-i.invariant.publications) in
    let more : suc (i + 1) ≡ i + 1 + 1 = omega arith in
    record {
      publications = subst (λ k. new ++ known_publications k rest ≡ final) more now;
      numbers = λ filters adverts are. c.in_ok-script.ensures.left filters adverts (all_filters rest) (all_adverts rest)
          (rw script (subst (λ zs. AreNumbers filters adverts ns ms (all_filters zs) (all_adverts zs)) at (c.loop-i.invariant.numbers filters adverts are)));
      represents = λ filters adverts qs are h. rw c.in_ok-push.ensures.items
          (all_next filters adverts new (known_publications (suc (i + 1)) rest) final (i + 1) client rest clients c.in_ok-script.script c.loop-i.scripts.items now
          (λ later. subst (λ z. AreNumbered (catalogue_of filters adverts (new ++ later)) (i + 1) 0 c.in_ok-script.script z) script
          (c.in_ok-script.ensures.represents filters adverts later (rw script (here filters adverts ns ms (drop i clients) rest client at (c.loop-i.invariant.numbers filters adverts are)))))
          (λ ps. subst (λ z. AllNumbered (catalogue_of filters adverts final) (i + 1) ps z → AllNumbered (catalogue_of filters adverts final) 1 (c.loop-i.scripts.items ++ ps) clients) at
          (c.loop-i.invariant.represents filters adverts ps are))
          qs (subst (λ k. AllNumbered (catalogue_of filters adverts final) k qs rest) (sym more) h));
    }

pub returns-clause-represents : goal.returns-clause-represents
returns-clause-represents c = λ filters adverts are.
    all_end filters adverts c.loop-i.publications.items (known_publications 1 c.args.clients.now) (c.loop-i.i + 1) c.args.clients.now c.loop-i.scripts.items
    c.loop-i.i c.loop-i-test.false c.loop-i.invariant.publications (λ ns. c.loop-i.invariant.represents filters adverts ns are)
