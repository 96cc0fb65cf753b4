-- The lines of the scripts: in each four subscriptions, a barrier and the publications behind it.
use Rattle.std.proofs.Common.{◌≡◌, ℕ, zero, suc, ◌+◌, ◌*◌, ◌<◌, ◌≤◌, Bool, true, false, List, [], ◌∷◌, ◌++◌, length, refl, sym, ap, subst, ◌∙◌, arith, Option, Ok, append_assoc}
use Rattle.std.specs.Prelude.{codes, nat_lt, if◌then◌else◌}
use Rattle.std.proofs.lemmas.List.{length-append}
use Rattle.base.proofs.Lists.{length-push}
use Rattle.filter_text.specs.declared.semantics.Semantics.TheVariants.{Subscription}
use Rattle.document_reader.specs.Drawn.{drawn, is_apart}
use Rattle.document_reader.specs.Drafts.{barriers_at, barriers_of, begun, name_of, scriptless, with_barrier}
use Rattle.document_reader.specs.Tally.{CommandCounts}
use Rattle.document_reader.specs.declared.draft.Draft.{Draft}
use Rattle.document_reader.specs.declared.state.State.{State}
use Rattle.document_reader.specs.declared.state.Place.{Place}
use Rattle.document_reader.specs.declared.state.Place.TheVariants as at
use Rattle.document_reader.specs.declared.version.Version.TheVariants.{One}
use Rattle.document_format.proofs.LineLaws.{ended}
use Rattle.document_format.proofs.ReadLaws.{number_shown}
use Rattle.document_format.proofs.Stands.{state, IsOpen}
use Rattle.document_format.proofs.Stands.IsOpen.{Scripts}
use Rattle.document_format.proofs.ScriptStands.{script_stands, barrier_stands}
use Rattle.document_format.proofs.ClientStands.{changed-middle, place_here}
use Rattle.document_format.proofs.StepStands.{get-middle, no-scripts}
use Rattle.document_generate.specs.Draws.{after}
use Rattle.document_generate.specs.Lines.{texts_drawn, subscribe_line, publish_line}
use Rattle.document_generate.specs.Document.{publications, script_draws, script_text}
use Rattle.document_generated.proofs.Leading.{Leads, leads-none, leads-line, leads-on, leads-within, number-short}
use Rattle.document_generated.proofs.ClientLines.{name-at, home-at, numbered-name, AreBefore, absent, before-more, fresh}
use Rattle.document_generated.proofs.CommandLines.{AreFew, more-few, scripting, LeadsInScript, one-subscription, one-publication}

-- lines of one kind, by the counts that so many of them make
module _ (edges : List (ℕ × ℕ)) (done rest : List Draft) (line : ℕ → List ℕ) (draws controls published : ℕ → ℕ) (all : ℕ)
    (one : (d : Draft) (t : CommandCounts) (k s : ℕ) → k < all → AreFew t (controls k) (published k) → LeadsInScript edges done d rest t (line s) 100 (controls (k + 1)) (published (k + 1))) where
  texts-lead : (n k place s : ℕ) (d : Draft) (t : CommandCounts) → k + n ≡ all → AreFew t (controls k) (published k)
      → LeadsInScript edges done d rest t (texts_drawn (λ z. line) draws n place s) (100 * n) (controls all) (published all)
  unfolding texts_drawn
  texts-lead zero k place s d t is few = record {
    draft = d;
    named = refl;
    barriers = refl;
    tally = t;
    few = subst (λ z. AreFew t (controls z) (published z)) (let e : k ≡ all = omega (arith, is) in e) few;
    leads = leads-none (scripting edges done d rest t);
  }
  texts-lead (suc n) k place s d t is few =
      let here = one d t k s (omega (arith, is)) few in
      let more = texts-lead n (k + 1) (place + 1) (after (draws place) s) here.draft here.tally (omega (arith, is)) here.few in
      let e : 100 + 100 * n ≡ 100 * suc n = omega arith in
      record {
        draft = more.draft;
        named = more.named ∙ here.named;
        barriers = more.barriers ∙ here.barriers;
        tally = more.tally;
        few = more.few;
        leads = subst (λ z. Leads (scripting edges done d rest t) (line s ++ texts_drawn (λ x. line) draws n (place + 1) (after (draws place) s)) z (scripting edges done more.draft rest more.tally)) e
            (leads-on _ _ _ _ _ 100 (100 * n) here.leads more.leads);
      }

publications-few : (place : ℕ) → publications place ≤ 32
unfolding publications
publications-few place = go (nat_lt place 16)
  where
    go : (b : Bool) → (if b then 32 else 31) ≤ 32
    go true = omega arith
    go false = omega arith

abbrev line-at : ℕ → List ℕ
line-at place = codes "script " ++ name-at place

module _ (edges : List (ℕ × ℕ)) (whole : is_apart (drawn 16 [] 0 edges) ≡ false) where
  -- what stands among the scripts
  abbrev pub among : Place → List Draft → ℕ → CommandCounts → State
  among p clients k t = state p One Subscription (drawn 16 [] 0 edges) clients k t []

  begins : (place k : ℕ) (p : Place) (done rest : List Draft) (t : CommandCounts) → IsOpen p → place < 64 → AreBefore place done
      → Leads (among p (done ++ scriptless (name-at place) (home-at place) ∷ rest) k t) (ended (line-at place)) 11 (scripting edges done (begun (scriptless (name-at place) (home-at place))) rest t)
  begins place k p done rest t o l before =
      let d = scriptless (name-at place) (home-at place) in
      let size : length (line-at place) < 11 = omega (arith, number-short (place + 1) (omega (arith, l))) in
      leads-line _ _ (line-at place) 11 (number_shown (place + 1) (omega (arith, l))) size
      (λ n. script_stands n p One Subscription (drawn 16 [] 0 edges) (done ++ d ∷ rest) k t (name-at place) (length done) o whole (numbered-name 99 (place + 1) refl (omega (arith, l)))
      (place_here (name-at place) done rest d (absent place done l before) refl) (no-scripts done rest d refl)
      ∙ ap (λ (z : List Draft). Ok (among at.Scripts z (length done) t)) (changed-middle done rest d begun))

  separates : (done rest : List Draft) (d : Draft) (t : CommandCounts) → d.client.barriers ≡ 0 → Leads (scripting edges done d rest t) (codes "barrier\n") 8 (scripting edges done (with_barrier d) rest t)
  separates done rest d t none =
      let few : barriers_at (done ++ d ∷ rest) (length done) < 4095 = subst (λ (z : Option Draft). barriers_of z < 4095) (sym (get-middle done rest d)) (omega (arith, none)) in
      leads-line _ _ (codes "barrier") 8 refl (omega arith)
      (λ n. barrier_stands n One Subscription (drawn 16 [] 0 edges) (done ++ d ∷ rest) (length done) t few
      ∙ ap (λ (z : List Draft). Ok (among at.Scripts z (length done) t)) (changed-middle done rest d with_barrier))

  -- a client's script
  record Written (place s k : ℕ) (p : Place) (done rest : List Draft) (t : CommandCounts) : Type 0 where
    pub draft : Draft
    pub named : name_of draft ≡ name-at place
    pub tally : CommandCounts
    pub few : AreFew tally (4 * (place + 1)) (32 * (place + 1))
    pub leads : Leads (among p (done ++ scriptless (name-at place) (home-at place) ∷ rest) k t) (script_text place s) 4000 (scripting edges done draft rest tally)

  one-script : (place s k : ℕ) (p : Place) (done rest : List Draft) (t : CommandCounts) → IsOpen p → place < 64 → AreBefore place done → length done + suc (length rest) ≡ 64
      → AreFew t (4 * place) (32 * place) → Written place s k p done rest t
  unfolding script_text
  one-script place s k p done rest t o l before clients few =
      let count : (d : Draft) → length (done ++ d ∷ rest) ≡ 64 = λ d. length-append done (d ∷ rest) ∙ clients in
      let d = begun (scriptless (name-at place) (home-at place)) in
      let m = publications-few place in
      let first = begins place k p done rest t o l before in
      let subscribed = texts-lead edges done rest subscribe_line (λ z. 5) (λ z. 4 * place + z) (λ z. 32 * place) 4
      (λ x u i r j h. subst (λ z. LeadsInScript edges done x rest u (subscribe_line r) 100 z (32 * place)) (let e : 4 * place + i + 1 ≡ 4 * place + (i + 1) = omega arith in e)
      (one-subscription edges done x rest u (4 * place + i) (32 * place) r (count x) h (omega (arith, j, l)) (omega (arith, l))))
      4 0 0 s d t (omega arith) (more-few t (4 * place) (32 * place) (4 * place + 0) (32 * place) (omega arith) (omega arith) few) in
      let between = separates done rest subscribed.draft subscribed.tally subscribed.barriers in
      let published = texts-lead edges done rest publish_line (λ z. 6) (λ z. 4 * place + 4) (λ z. 32 * place + z) (publications place)
      (λ x u i r j h. subst (λ z. LeadsInScript edges done x rest u (publish_line r) 100 (4 * place + 4) z) (let e : 32 * place + i + 1 ≡ 32 * place + (i + 1) = omega arith in e)
      (one-publication edges done x rest u (4 * place + 4) (32 * place + i) r (count x) h (omega (arith, l)) (omega (arith, j, l, m))))
      (publications place) 0 0 (after 20 s) (with_barrier subscribed.draft) subscribed.tally (omega arith)
      (more-few subscribed.tally (4 * place + 4) (32 * place) (4 * place + 4) (32 * place + 0) (omega arith) (omega arith) subscribed.few) in
      record {
        draft = published.draft;
        named = published.named ∙ subscribed.named;
        tally = published.tally;
        few = more-few published.tally (4 * place + 4) (32 * place + publications place) (4 * (place + 1)) (32 * (place + 1)) (omega arith) (omega (arith, m)) published.few;
        leads = leads-within _ _ _ (11 + 400 + 8 + 100 * publications place) 4000 (omega (arith, m))
            (leads-on _ _ _ _ _ (11 + 400 + 8) (100 * publications place) (leads-on _ _ _ _ _ (11 + 400) 8 (leads-on _ _ _ _ _ 11 400 first subscribed.leads) between) published.leads);
      }

  -- the scripts of the clients from a place on
  pub record AllWritten (n place s k : ℕ) (p : Place) (done : List Draft) (t : CommandCounts) : Type 0 where
    pub last : Place
    pub is-open : IsOpen last
    pub clients : List Draft
    pub client : ℕ
    pub tally : CommandCounts
    pub leads : Leads (among p (done ++ fresh n place) k t) (texts_drawn script_text script_draws n place s) (4000 * n) (among last clients client tally)

  fresh-length : (n place : ℕ) → length (fresh n place) ≡ n
  fresh-length zero place = refl
  fresh-length (suc n) place = ap suc (fresh-length n (place + 1))

  pub scripts-lead : (n place s k : ℕ) (p : Place) (done : List Draft) (t : CommandCounts) → IsOpen p → place + n ≡ 64 → length done ≡ place → AreBefore place done → AreFew t (4 * place) (32 * place)
      → AllWritten n place s k p done t
  unfolding texts_drawn
  scripts-lead zero place s k p done t o is len before few = record { last = p; is-open = o; clients = done ++ []; client = k; tally = t; leads = leads-none (among p (done ++ []) k t) }
  scripts-lead (suc n) place s k p done t o is len before few =
      let rest = fresh n (place + 1) in
      let here = one-script place s k p done rest t o (omega (arith, is)) before (omega (arith, fresh-length n (place + 1), len, is)) few in
      let more = scripts-lead n (place + 1) (after (script_draws place) s) (length done) at.Scripts (done ++ here.draft ∷ []) here.tally Scripts (omega (arith, is)) (length-push done here.draft ∙ ap (λ z. z + 1) len)
      (before-more place done here.draft before here.named) here.few in
      let f : (done ++ here.draft ∷ []) ++ rest ≡ done ++ here.draft ∷ rest = append_assoc done (here.draft ∷ []) rest in
      let e : 4000 + 4000 * n ≡ 4000 * suc n = omega arith in
      let later = subst (λ (z : List Draft). Leads (among at.Scripts z (length done) here.tally) (texts_drawn script_text script_draws n (place + 1) (after (script_draws place) s)) (4000 * n) (among more.last more.clients more.client more.tally)) f more.leads in
      record {
        last = more.last;
        is-open = more.is-open;
        clients = more.clients;
        client = more.client;
        tally = more.tally;
        leads = subst (λ z. Leads (among p (done ++ fresh (suc n) place) k t) (texts_drawn script_text script_draws (suc n) place s) z (among more.last more.clients more.client more.tally)) e
            (leads-on _ _ _ _ _ 4000 (4000 * n) here.leads later);
      }
