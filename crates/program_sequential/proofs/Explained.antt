-- The answer to `explain`, and what it tells of the input.
use Rattle.std.proofs.Common.{◌≡◌, ◌⊎◌, inl, inr, ℕ, suc, ◌<◌, ◌≤◌, Bool, true, List, [], ◌++◌, length, slice_get, take, Some, Result, Ok, Err, refl, sym, ap, ◌∙◌, subst, arith}
use Rattle.std.specs.Result.{IsOk, IsErrOf}
use Rattle.base_devices.specs.Whole.{Gave}
use Rattle.filter_types.specs.Notice.{Attribute}
use Rattle.filter_text.specs.declared.id.Id.{Id}
use Rattle.filter_text.specs.Deliveries.{Delivery}
use Rattle.net_turns.specs.Network.{IsLegal, IsDrainedBy}
use Rattle.output_explain.specs.Text.{explanation_text}
use Rattle.law_routing.specs.Net.{Publish}
use Rattle.law_routing.specs.Clients.{ordinal}
use Rattle.net_model.specs.Real.{real}
use Rattle.net_model.specs.Parts.{ClientParts, NetParts, EntryParts}
use Rattle.net_model.specs.Nets.{client_at, script_in}
use Rattle.net_model.specs.Sound.{IsSound}
use Rattle.document_reader.specs.declared.fault.Fault.{Fault}
use Rattle.document_reader.specs.declared.fault.InputFault.{InputFault}
use Rattle.document_reader.specs.declared.fault.InputFault.TheVariants as inputs
use Rattle.document_reader.specs.Net.{IsNetOf, IsBadAt}
use Rattle.output_explain.specs.declared.answer.Explanation.{Explanation}
use Rattle.output_explain.specs.declared.fault.ExplainFault.{ExplainFault}
use Rattle.output_explain.specs.declared.fault.ExplainFault.TheVariants as explains
use Rattle.output_explain.specs.Asked.{Question, IsNamed, IsPublish, IsNobody, IsSomebody, HasNoPublish}
use Rattle.output_explain.specs.declared.prospect.Prospect.{Prospect}
use Rattle.output_explain.specs.Explained.{IsAnswer}
use Rattle.output_explain.specs.Prospects.{AreProspects, prospects_text}
use Rattle.program_sequential.specs.declared.unanswered.Unanswered.{Unanswered}
use Rattle.program_sequential.specs.declared.unanswered.Unanswered.TheVariants as whys
use Rattle.program_sequential.specs.declared.unknown.Unknown.{Unknown}
use Rattle.program_sequential.specs.declared.unknown.Unknown.TheVariants as unknowns
use Rattle.base_devices.specs.declared.whole.ReadAll.{ReadAll}
use Rattle.base_devices.specs.declared.whole.ReadAll.TheVariants as reads
use Rattle.program_sequential.specs.declared.words.Schedule.TheVariants.{Walk}
use Rattle.program_sequential.specs.declared.words.Wanted.TheVariants.{Explain}
use Rattle.program_sequential.specs.Words.{plain}
use Rattle.program_sequential.specs.Runs.{GoesBy, received_in}
use Rattle.program_sequential.specs.Printed.{run_text, trace_of}
use Rattle.program_sequential.specs.Promise.{ClientPromise, AreOfNotices}
use Rattle.program_sequential.specs.Network.{lists_by, NetworkPromise, IsWholeRun}
use Rattle.program_sequential.specs.declared.subject.Subject.{Subject}
use Rattle.program_sequential.specs.declared.subject.Subject.TheVariants.{Client, Publication}
use Rattle.program_sequential.specs.Explanations.{IsUnknownIn, is_received, received_at, walk_line}
use Rattle.program_sequential.specs.Outlooks.{IsExplainedOf, IsNotThere, HasSubject}
use Rattle.program_sequential.specs.Answers.{GaveDocument, GaveRefusedFor, GaveUnknownFor, CanAnswerFor}
use Rattle.program_sequential.specs.Showing.{PrintedParts}
use Rattle.program_sequential.specs.Asking.{question_of}
use Rattle.program_sequential.specs.Answering.{of_explain_fault, of_input_fault, of_unread}
use Rattle.program_sequential.specs.Explaining.{IsTold, ExplainsNet, ListsNet, ExplainsInput, ExplainsSource}
use Rattle.program_sequential.proofs.Documents.{net-or-bad, same-bad, same-clients}
use Rattle.program_sequential.proofs.Sources.{same-given, too-long}

-- What names say depends on the clients of a net alone.

module _ (a b : NetParts) (e : a.clients ≡ b.clients) where
  named-over : (name : List ℕ) (number : ℕ) → IsNamed a name number → IsNamed b name number
  named-over name number n = record {
    client = n.client;
    at = subst (λ (cs : List ClientParts). client_at cs number ≡ Some n.client) e n.at;
    named = n.named;
  }

  publish-over : (id : Id) (index phase : ℕ) (notice : List Attribute) → IsPublish a id index phase notice → IsPublish b id index phase notice
  publish-over id index phase notice p = record {
    at = subst (λ (cs : List ClientParts). slice_get (script_in (client_at cs id.publisher)) index ≡ Some (record { phase = phase; command = Publish notice })) e p.at;
    ordinal = subst (λ (cs : List ClientParts). ordinal real (take (suc index) (script_in (client_at cs id.publisher))) ≡ id.ordinal) e p.ordinal;
  }

-- forth and back
module _ (a b : NetParts) (e : a.clients ≡ b.clients) where
  nobody-over : (name : List ℕ) → IsNobody a name → IsNobody b name
  nobody-over name h = λ number n. h number (named-over b a (sym e) name number n)

  somebody-over : (name : List ℕ) → IsSomebody a name → IsSomebody b name
  somebody-over name h = (h.0, named-over a b e name h.0 h.1)

  no-publish-over : (name : List ℕ) (number : ℕ) → HasNoPublish a name number → HasNoPublish b name number
  no-publish-over name number h = λ publisher index phase notice n p.
      h publisher index phase notice (named-over b a (sym e) name publisher n)
      (publish-over b a (sym e) (record { publisher = publisher; ordinal = number }) index phase notice p)

  unknown-over : (q : Question) (kind : Unknown) → IsUnknownIn a q kind → IsUnknownIn b q kind
  unknown-over q unknowns.Client h = nobody-over q.client h
  unknown-over q unknowns.Publisher h = (somebody-over q.client h.0, nobody-over q.publisher h.1)
  unknown-over q unknowns.Number h = (somebody-over q.client h.0, somebody-over q.publisher h.1, no-publish-over q.publisher q.ordinal h.2)

-- A question has one answer.

apart : (net : NetParts) (name : List ℕ) → IsNobody net name → IsSomebody net name → ⊥
apart net name h s = h s.0 s.1

one-unknown : (net : NetParts) (q : Question) (k l : Unknown) → IsUnknownIn net q k → IsUnknownIn net q l → k ≡ l
one-unknown net q unknowns.Client unknowns.Client h g = refl
one-unknown net q unknowns.Client unknowns.Publisher h g = absurd (apart net q.client h g.0)
one-unknown net q unknowns.Client unknowns.Number h g = absurd (apart net q.client h g.0)
one-unknown net q unknowns.Publisher unknowns.Client h g = absurd (apart net q.client g h.0)
one-unknown net q unknowns.Publisher unknowns.Publisher h g = refl
one-unknown net q unknowns.Publisher unknowns.Number h g = absurd (apart net q.publisher h.1 g.1)
one-unknown net q unknowns.Number unknowns.Client h g = absurd (apart net q.client g h.0)
one-unknown net q unknowns.Number unknowns.Publisher h g = absurd (apart net q.publisher g.1 h.1)
one-unknown net q unknowns.Number unknowns.Number h g = refl

known-or-unknown : (net : NetParts) (q : Question) (kind : Unknown) → IsSomebody net q.client → IsSomebody net q.publisher
    → (HasNoPublish net q.publisher q.ordinal → ⊥) → IsUnknownIn net q kind → ⊥
known-or-unknown net q unknowns.Client c p n h = apart net q.client h c
known-or-unknown net q unknowns.Publisher c p n h = apart net q.publisher h.1 p
known-or-unknown net q unknowns.Number c p n h = n h.2

answered-or-none : (net : NetParts) (q : Question) (e : Explanation) → IsAnswer net q.client q.publisher q.ordinal e → HasNoPublish net q.publisher q.ordinal → ⊥
answered-or-none net q e a h =
    h e.id.publisher a.explained.index e.phase e.notice a.of_publisher
    (record { at = a.explained.publish.at; ordinal = a.explained.publish.ordinal ∙ a.of_ordinal })

answered-or-unknown : (net : NetParts) (q : Question) (e : Explanation) (kind : Unknown) → IsAnswer net q.client q.publisher q.ordinal e → IsUnknownIn net q kind → ⊥
answered-or-unknown net q e kind a h =
    known-or-unknown net q kind (e.client, a.of_client) (e.id.publisher, a.of_publisher) (answered-or-none net q e a) h

-- An input says one thing.

said-bad : (s : Subject) (input text : List ℕ) (journal : List EntryParts) (line : ℕ) (kind : Fault) → IsExplainedOf s input text journal → IsBadAt input line kind → ⊥
said-bad (Publication q) input text journal line kind p bad = net-or-bad input p.walk.net line kind p.walk.well_formed bad
said-bad (Client name) input text journal line kind p bad = net-or-bad input p.0.net line kind p.0.well_formed bad

said-unknown : (s : Subject) (input text : List ℕ) (journal : List EntryParts) (kind : Unknown) → IsExplainedOf s input text journal → IsNotThere s input kind → ⊥
said-unknown (Publication q) input text journal kind p u =
    answered-or-unknown p.walk.net q p.explanation kind p.answer
    (unknown-over u.0 p.walk.net (same-clients input u.0 p.walk.net u.1 p.walk.well_formed) q kind u.2)
said-unknown (Client name) input text journal kind p u =
    apart p.0.net name (nobody-over u.0 p.0.net (same-clients input u.0 p.0.net u.1 p.0.well_formed) name u.3) (p.0.list.number, p.0.list.named)

unknown-once : (s : Subject) (input : List ℕ) (k l : Unknown) → IsNotThere s input k → IsNotThere s input l → k ≡ l
unknown-once (Publication q) input k l u v = one-unknown v.0 q k l (unknown-over u.0 v.0 (same-clients input u.0 v.0 u.1 v.1) q k u.2) v.2
unknown-once (Client name) input k l u v = u.2 ∙ sym v.2

can-or-unknown : (s : Subject) (input : List ℕ) (kind : Unknown) → HasSubject s input → IsNotThere s input kind → ⊥
can-or-unknown (Publication q) input kind can u =
    known-or-unknown can.0 q kind can.2 can.3 can.4 (unknown-over u.0 can.0 (same-clients input u.0 can.0 u.1 can.1) q kind u.2)
can-or-unknown (Client name) input kind can u = apart can.0 name (nobody-over u.0 can.0 (same-clients input u.0 can.0 u.1 can.1) name u.3) can.2

-- there is a net
net-without : (s : Subject) (input : List ℕ) (kind : Unknown) → IsNotThere s input kind → (net : NetParts) × IsNetOf input net
net-without (Publication q) input kind u = (u.0, u.1)
net-without (Client name) input kind u = (u.0, u.1)

net-with : (s : Subject) (input : List ℕ) → HasSubject s input → (net : NetParts) × IsNetOf input net
net-with (Publication q) input can = (can.0, can.1)
net-with (Client name) input can = (can.0, can.1)

-- The answer of the code.

-- what is answered where the document is refused
pub refused-input : (q : Subject) (input : List ℕ) (e : InputFault) (r : Result PrintedParts Unanswered) → r ≡ Err (of_input_fault e)
    → ((line : ℕ) (kind : Fault) → e ≡ inputs.Bad line kind → IsBadAt input line kind) → ExplainsInput q input r
refused-input q input (inputs.Bad line kind) r s bad = subst (ExplainsInput q input) (sym s) (bad line kind refl)
refused-input q input inputs.NoMemory r s bad = subst (ExplainsInput q input) (sym s) tt

-- where a name isn't there
refused-named : (q : Question) (net : NetParts) (e : ExplainFault) (r : Result PrintedParts Unanswered) → r ≡ Err (of_explain_fault e)
    → (e ≡ explains.NoClient → IsNobody net q.client) → (e ≡ explains.NoPublisher → IsSomebody net q.client × IsNobody net q.publisher)
    → (e ≡ explains.NoPublication → IsSomebody net q.client × IsSomebody net q.publisher × HasNoPublish net q.publisher q.ordinal)
    → ExplainsNet q net r
refused-named q net explains.NoClient r s client publisher number = subst (ExplainsNet q net) (sym s) (client refl)
refused-named q net explains.NoPublisher r s client publisher number = subst (ExplainsNet q net) (sym s) (publisher refl)
refused-named q net explains.NoPublication r s client publisher number = subst (ExplainsNet q net) (sym s) (number refl)
refused-named q net explains.NoMemory r s client publisher number = subst (ExplainsNet q net) (sym s) tt

-- a question by its parts
pub question-is : (q : Question) (client publisher : List ℕ) (ordinal : ℕ) → client ≡ q.client → publisher ≡ q.publisher → ordinal ≡ q.ordinal
    → question_of client publisher ordinal ≡ q
question-is q client publisher ordinal c p o =
    ap (λ z. question_of z publisher ordinal) c ∙ ap (λ z. question_of q.client z ordinal) p ∙ ap (λ z. question_of q.client q.publisher z) o

pub refused-question : (q : Question) (net : NetParts) (e : ExplainFault) (r : Result PrintedParts Unanswered) (client publisher : List ℕ) (ordinal : ℕ)
    → client ≡ q.client → publisher ≡ q.publisher → ordinal ≡ q.ordinal → r ≡ Err (of_explain_fault e)
    → (e ≡ explains.NoClient → IsNobody net client) → (e ≡ explains.NoPublisher → IsSomebody net client × IsNobody net publisher)
    → (e ≡ explains.NoPublication → IsSomebody net client × IsSomebody net publisher × HasNoPublish net publisher ordinal)
    → ExplainsNet q net r
refused-question q net e r client publisher ordinal c p o s nobody none number =
    subst (λ (z : Question). ExplainsNet z net r) (question-is q client publisher ordinal c p o)
    (refused-named (question_of client publisher ordinal) net e r s nobody none number)

-- where all is there
pub answered-question : (q : Question) (net : NetParts) (e : Explanation) (p : PrintedParts) (client publisher : List ℕ) (ordinal : ℕ)
    → client ≡ q.client → publisher ≡ q.publisher → ordinal ≡ q.ordinal → IsAnswer net client publisher ordinal e → IsTold net e p.text p.journal
    → ExplainsNet q net (Ok p)
answered-question q net e p client publisher ordinal c n o answer told =
    subst (λ (z : Question). ExplainsNet z net (Ok p)) (question-is q client publisher ordinal c n o) (e, answer, told)

-- by a net of the input, of which the promise holds
pub by-net : (q : Question) (input : List ℕ) (net : NetParts) (r : Result PrintedParts Unanswered) → IsNetOf input net → IsSound net → AreOfNotices net.clients
    → ((journal : List EntryParts) → IsWholeRun net journal → ClientPromise plain input (run_text plain net journal) net (lists_by net journal) (trace_of plain.trace net journal))
    → ((journal : List EntryParts) → IsWholeRun net journal → GoesBy Walk net journal
    → NetworkPromise Walk plain net journal (lists_by net journal) (trace_of plain.trace net journal))
    → ExplainsNet q net r → ExplainsInput (Publication q) input r
by-net q input net (Ok p) of sound notices clients network h =
    let whole : IsWholeRun net p.journal = record { sound = sound; notices = notices; legal = h.2.legal; drained = h.2.drained } in record {
      walked = run_text plain net p.journal;
      walk = record {
        net = net;
        well_formed = of;
        lists = lists_by net p.journal;
        trace = trace_of plain.trace net p.journal;
        clients = clients p.journal whole;
        network = network p.journal whole h.2.goes_by;
      };
      explanation = h.0;
      answer = h.1;
      printed = h.2.printed;
    }
by-net q input net (Err (whys.BadInput line kind)) of sound notices clients network h = absurd h
by-net q input net (Err (whys.BadPattern line kind)) of sound notices clients network h = absurd h
by-net q input net (Err (whys.Refuted line kind)) of sound notices clients network h = absurd h
by-net q input net (Err (whys.Unknown kind)) of sound notices clients network h = (net, of, h)
by-net q input net (Err whys.ReadFault) of sound notices clients network h = absurd h
by-net q input net (Err whys.NoMemory) of sound notices clients network h = tt

-- the list of what comes to a client, by a net of the input
pub listed-by : (name input : List ℕ) (net : NetParts) (r : Result PrintedParts Unanswered) → IsNetOf input net → ListsNet name net r → ExplainsInput (Client name) input r
listed-by name input net (Ok p) of h = (record { net = net; well_formed = of; list = h.0 }, h.1)
listed-by name input net (Err (whys.BadInput line kind)) of h = absurd h
listed-by name input net (Err (whys.BadPattern line kind)) of h = absurd h
listed-by name input net (Err (whys.Refuted line kind)) of h = absurd h
listed-by name input net (Err (whys.Unknown kind)) of h = (net, of, h.0, h.1)
listed-by name input net (Err whys.ReadFault) of h = absurd h
listed-by name input net (Err whys.NoMemory) of h = tt

-- what is printed of the list, and where there is none
pub listed-of : (name : List ℕ) (net : NetParts) (p : PrintedParts) (number : ℕ) (list : List Prospect) → IsNamed net name number → AreProspects net number list
    → p ≡ record { text = prospects_text net.clients list; journal = [] } → ListsNet name net (Ok p)
listed-of name net p number list named exactly is =
    subst (λ (z : PrintedParts). ListsNet name net (Ok z)) (sym is)
    (record { number = number; named = named; prospects = list; exactly = exactly; printed = refl }, refl)

-- what is answered of an input is no fault of reading it
pub explained-read : (q : Subject) (input : List ℕ) (r : Result PrintedParts Unanswered) → ExplainsInput q input r → IsErrOf r whys.ReadFault → ⊥
explained-read q input r h e = subst (ExplainsInput q input) e h

-- A source gave one input.

module _ (q : Subject) (a b : List ℕ) (ended : Bool) where
  same : (x y : List ℕ) → b ≡ a ++ x → b ≡ a ++ y → x ≡ y
  same x y p q = same-given a b x y p q

  unread : (x : List ℕ) → GaveDocument a b ended x → (ended ≡ true → ⊥) × Gave a b (λ bytes. length bytes ≤ 4194304) → ⊥
  unread x (is, inl e) h = h.0 e
  unread x (is, inr big) h = omega (arith, big, subst (λ (z : List ℕ). length z ≤ 4194304) (same h.1.0 x h.1.1 is) h.1.2)

  pub explain-refused : (r : Result PrintedParts Unanswered) (line : ℕ) (kind : Fault) → ExplainsSource q a b ended r → GaveRefusedFor (Explain q) a b ended line kind
      → (r ≡ Err (whys.BadInput line kind)) ⊎ (r ≡ Err whys.NoMemory)
  explain-refused (Ok p) line kind h t =
      absurd (said-bad q t.0 p.text p.journal line kind (subst (λ z. IsExplainedOf q z p.text p.journal) (same h.0 t.0 h.1 t.1.0) h.3) t.2)
  explain-refused (Err (whys.BadInput l k)) line kind h t =
      let w = same-bad t.0 l line k kind (subst (λ z. IsBadAt z l k) (same h.0 t.0 h.1.0 t.1.0) h.2) t.2 in
      inl (rw (w.0, w.1) refl)
  explain-refused (Err (whys.BadPattern l k)) line kind h t = absurd h
  explain-refused (Err (whys.Refuted l k)) line kind h t = absurd h
  explain-refused (Err (whys.Unknown k)) line kind h t =
      let u = subst (λ z. IsNotThere q z k) (same h.0 t.0 h.1.0 t.1.0) h.2 in
      absurd (net-or-bad t.0 (net-without q t.0 k u).0 line kind (net-without q t.0 k u).1 t.2)
  explain-refused (Err whys.ReadFault) line kind h t = absurd (unread t.0 t.1 h)
  explain-refused (Err whys.NoMemory) line kind h t = inr refl

  pub explain-unknown : (r : Result PrintedParts Unanswered) (kind : Unknown) → ExplainsSource q a b ended r → GaveUnknownFor (Explain q) a b ended kind
      → (r ≡ Err (whys.Unknown kind)) ⊎ (r ≡ Err whys.NoMemory)
  explain-unknown (Ok p) kind h t =
      absurd (said-unknown q t.0 p.text p.journal kind (subst (λ z. IsExplainedOf q z p.text p.journal) (same h.0 t.0 h.1 t.1.0) h.3) t.2)
  explain-unknown (Err (whys.BadInput l k)) kind h t =
      absurd (net-or-bad t.0 (net-without q t.0 kind t.2).0 l k (net-without q t.0 kind t.2).1 (subst (λ z. IsBadAt z l k) (same h.0 t.0 h.1.0 t.1.0) h.2))
  explain-unknown (Err (whys.BadPattern l k)) kind h t = absurd h
  explain-unknown (Err (whys.Refuted l k)) kind h t = absurd h
  explain-unknown (Err (whys.Unknown k)) kind h t =
      inl (ap (λ z. Err (whys.Unknown z)) (unknown-once q t.0 k kind (subst (λ z. IsNotThere q z k) (same h.0 t.0 h.1.0 t.1.0) h.2) t.2))
  explain-unknown (Err whys.ReadFault) kind h t = absurd (unread t.0 t.1 h)
  explain-unknown (Err whys.NoMemory) kind h t = inr refl

  pub explain-done : (r : Result PrintedParts Unanswered) → ExplainsSource q a b ended r → CanAnswerFor (Explain q) a b ended → IsOk r ⊎ (r ≡ Err whys.NoMemory)
  explain-done (Ok p) h t = inl refl
  explain-done (Err (whys.BadInput l k)) h t =
      absurd (net-or-bad t.0 (net-with q t.0 t.2).0 l k (net-with q t.0 t.2).1 (subst (λ z. IsBadAt z l k) (same h.0 t.0 h.1.0 t.1.0) h.2))
  explain-done (Err (whys.BadPattern l k)) h t = absurd h
  explain-done (Err (whys.Refuted l k)) h t = absurd h
  explain-done (Err (whys.Unknown k)) h t = absurd (can-or-unknown q t.0 k t.2 (subst (λ z. IsNotThere q z k) (same h.0 t.0 h.1.0 t.1.0) h.2))
  explain-done (Err whys.ReadFault) h t = absurd (unread t.0 t.1 h)
  explain-done (Err whys.NoMemory) h t = inr refl

  pub explained-source : (input : List ℕ) (r : Result PrintedParts Unanswered) → b ≡ a ++ input → ended ≡ true → ExplainsInput q input r → ExplainsSource q a b ended r
  explained-source input (Ok p) is e h = (input, is, e, h)
  explained-source input (Err (whys.BadInput l k)) is e h = (input, (is, inl e), h)
  explained-source input (Err (whys.BadPattern l k)) is e h = absurd h
  explained-source input (Err (whys.Refuted l k)) is e h = absurd h
  explained-source input (Err (whys.Unknown k)) is e h = (input, (is, inl e), h)
  explained-source input (Err whys.ReadFault) is e h = absurd h
  explained-source input (Err whys.NoMemory) is e h = tt

  pub unread-explained : (e : ReadAll) → (e ≡ reads.TooLong → Gave a b (λ given. length given ≡ 4194305)) → (e ≡ reads.Failed → Gave a b (λ given. length given ≤ 4194304)) → (ended ≡ true → ⊥)
      → ExplainsSource q a b ended (Err (of_unread e))
  unread-explained reads.TooLong long within never =
      let t = long refl in
      let big : 4194304 < length t.0 = omega (arith, t.2) in
      (t.0, (t.1, inr big), too-long t.0 big)
  unread-explained reads.Failed long within never = (never, within refl)
  unread-explained reads.NoMemory long within never = tt

-- what is printed of an explanation and a walk
pub told-of : (net : NetParts) (e : Explanation) (p : PrintedParts) (text : List ℕ) (received : List (List Delivery)) (journal : List EntryParts)
    → p ≡ record { text = text; journal = journal } → text ≡ explanation_text net.clients e ++ walk_line (is_received e.id (received_at received e.client))
    → received ≡ received_in net journal → GoesBy Walk net journal → IsLegal net journal → IsDrainedBy net journal → IsTold net e p.text p.journal
told-of net e p text received journal is printed of goes legal drained =
    subst (λ (z : PrintedParts). IsTold net e z.text z.journal) (sym is) (record {
      goes_by = goes;
      legal = legal;
      drained = drained;
      printed = printed ∙ ap (λ (l : List (List Delivery)). explanation_text net.clients e ++ walk_line (is_received e.id (received_at l e.client))) of;
    })
