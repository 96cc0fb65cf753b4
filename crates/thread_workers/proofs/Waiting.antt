-- Who has a command left, of the clients of a cell in hand.
use Rattle.std.proofs.Common.{◌≡◌, inl, inr, ◌<◌, ◌≤◌, Bool, true, false, ℕ, zero, suc, List, [], ◌∷◌, length, get_or, Option, Some, None, IfNone, IfSome, slice_get, refl, sym, ap, subst, ◌∙◌, arith}
use Rattle.std.proofs.lemmas.Bool.Decides.{nat_tests}
use Rattle.std.proofs.lemmas.Option.{same_Some}
use Rattle.base.specs.Sets.{Has}
use Rattle.base_tree.specs.Tree.{Topology, IsServer, links_of}
use Rattle.filter_text.specs.declared.command.Command.{Command as WireCommand}
use Rattle.net_model.specs.Parts.{NetParts, EntryParts}
use Rattle.net_model.specs.Nets.{clients_of, topology_at}
use Rattle.server_spec.specs.Session.{SessionParts}
use Rattle.server_core.specs.Core.{CoreParts}
use Rattle.server_core.specs.Clients.{client_numbers}
use Rattle.thread_cell.specs.declared.held.ServerInHand.{ServerInHand}
use Rattle.thread_cell.specs.declared.held.Root.{Root}
use Rattle.net_model.specs.declared.turn.Act.TheVariants.{Command}
use Rattle.thread_cell.specs.Asked.{Suits}
use Rattle.thread_cell.specs.Cell.{IsKept, IsPast}
use Rattle.thread_cell.proofs.Housed.{at-home, all-past}
use Rattle.thread_cell.proofs.Keeping.{replayed, some-server, suits-held}
use Rattle.thread_cell.proofs.Phased.{past-by, past-none}
use Rattle.thread_cell.proofs.Trees.{server-known}
use Rattle.net_tables.specs.Known.{known_filters, known_publications}
use Rattle.thread_cell.specs.declared.link.Link.{Link}
use Rattle.thread_cell.specs.Looking.{IsLookedFor, IsPublicationOf}
use Rattle.thread_workers.specs.WorkerHandles.{CanMatch}
use Rattle.thread_workers.specs.Journals.{HasCommands}
use Rattle.thread_workers.proofs.Counted.{has-commands}

module _ (root : Root) (journal : List EntryParts) (held : ServerInHand) (kept : IsKept root.net.value root journal held) where
  -- who lives there has a session in hand
  pub lives-here : (core : CoreParts) (client : ℕ) → core ≡ held.core → Suits (Command client) root → Has client (client_numbers core.clients)
  lives-here core client e suits = subst (λ (z : CoreParts). Has client (client_numbers z.clients)) (sym e) (suits-held root.net.value root journal held kept (Command client) suits refl)

  -- whose next command is of a later phase doesn't wait, nor who has none
  pub later-past : (core : CoreParts) (client : ℕ) → core ≡ held.core → (s : SessionParts) → Has s core.clients → s.client ≡ client → (own : ℕ × WireCommand) → slice_get s.script s.taken ≡ Some own → root.phase < own.0
      → IsPast (suc root.phase) client held.core.clients
  later-past core client e s has is own at later =
      past-by held.core client (suc root.phase) (some-server root.net.value root journal held kept) s (subst (λ (z : CoreParts). Has s z.clients) e has) is own at (grind (arith, nat_tests, later))

  pub none-past : (core : CoreParts) (client : ℕ) → core ≡ held.core → (s : SessionParts) → Has s core.clients → s.client ≡ client → (s.taken < length s.script → ⊥) → IsPast (suc root.phase) client held.core.clients
  none-past core client e s has is none =
      past-none held.core client (suc root.phase) (some-server root.net.value root journal held kept) s (subst (λ (z : CoreParts). Has s z.clients) e has) is none

  -- where no client of the server waits, the journal has every command
  pub none-waits : (end : ℕ) → length root.net.value.clients < end → ((client : ℕ) → 1 ≤ client → client < end → Suits (Command client) root → IsPast (suc root.phase) client held.core.clients) → HasCommands root.phase root journal
  none-waits end beyond past =
      has-commands root.net.value root journal held kept
      (all-past root.net.value root.server (suc root.phase) (length root.net.value.clients) held.core.clients
      (ap (clients_of root.net.value) (sym kept.number) ∙ (replayed root.net.value root journal held kept).stands.state.clients) (omega arith)
      (λ place client lt e h. past (suc place) (omega arith) (omega (arith, lt, beyond)) (at-home root.net.value root.server place client e h)))

  -- the tree of the cell's phase has its server
  pub server-there : (net : NetParts) (server phase : ℕ) (tree : Topology) → root.net.value ≡ net → root.server ≡ server → phase ≡ root.phase → tree ≡ topology_at net phase → IsServer tree server
  server-there net server phase tree e f p t =
      subst (λ (z : Topology). IsServer z server) (sym (t ∙ ap (topology_at net) p ∙ sym (ap (λ n. topology_at n root.phase) e)))
      (subst (IsServer (topology_at root.net.value root.phase)) f (server-known root.net.value root journal held kept))

  -- the row of a server's neighbours
  pub row-there : (net : NetParts) (server phase : ℕ) (tree : Topology) (row : List ℕ) → root.net.value ≡ net → root.server ≡ server → phase ≡ root.phase → tree ≡ topology_at net phase → row ≡ links_of tree server
      → row ≡ links_of (topology_at root.net.value root.phase) root.server
  row-there net server phase tree row e f p t r =
      r ∙ ap (λ z. links_of z server) t ∙ ap (λ z. links_of (topology_at net z) server) p ∙ ap (λ z. links_of (topology_at z root.phase) server) (sym e) ∙ ap (λ z. links_of (topology_at root.net.value root.phase) z) (sym f)

  -- each publication of the net can be matched ahead
  pub matchable : (core : CoreParts) → core ≡ held.core → (number : ℕ) → number < length (known_publications 1 core.net.clients) → CanMatch root number
  matchable core e number lt =
      let run : core.net ≡ root.net.value = ap (λ (z : CoreParts). z.net) e ∙ kept.run in (
        subst (λ (z : NetParts). number < length (known_publications 1 z.clients)) run lt,
        kept.publisher.width ∙ kept.now.shown.wide.width ∙ ap (λ (z : NetParts). length (known_filters z.clients)) kept.run,
      )

  -- so can one that a look found
  pub looked-matchable : (from : ℕ) (xs ys : List Link) (o : Option ℕ) → IsLookedFor root.net.value from xs ys o → IfSome o (CanMatch root)
  looked-matchable from xs ys o l = go o l.seen l.told
    where
      go : (o : Option ℕ) (seen : Bool) → IsPublicationOf root.net.value l.place ys seen o → IfSome o (CanMatch root)
      go None seen t = tt
      go (Some number) false t = absurd cc
      go (Some number) true t = (
        t.2.1,
        kept.publisher.width ∙ kept.now.shown.wide.width ∙ ap (λ (z : NetParts). length (known_filters z.clients)) kept.run,
      )

pub some-matchable : {P Q : ℕ → Type 0} (o : Option ℕ) → ((n : ℕ) → P n → Q n) → IfSome o P → IfSome o Q
some-matchable None f p = tt
some-matchable (Some n) f p = f n p

pub some-gives : (P : ℕ → Type 0) (o : Option ℕ) (n : ℕ) → o ≡ Some n → IfSome o P → P n
some-gives P None n e p = absurd cc
some-gives P (Some m) n e p = subst P (same_Some m n e) p

-- what is read at a place is there
pub has-get : (xs : List ℕ) (k other : ℕ) → k < length xs → Has (get_or xs k other) xs
has-get [] k other lt = absurd (omega (arith, lt))
has-get (x ∷ xs) zero other lt = inl refl
has-get (x ∷ xs) (suc k) other lt = inr (has-get xs k other (omega (arith, lt)))

-- what follows where there is nothing
pub if-none : {A P Q : Type 0} (o : Option A) → IfNone o P → (P → Q) → IfNone o Q
if-none None p f = f p
if-none (Some x) p f = tt
