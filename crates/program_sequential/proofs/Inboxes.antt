-- Proves that deliveries are the publications of inboxes.
use Rattle.std.proofs.Common.{◌≡◌, ℕ, zero, suc, ◌+◌, ◌==◌, ◌&&◌, true, cond, List, [], ◌∷◌, map, length, slice_get, Some, refl, ap, ◌∙◌, subst, arith}
use Rattle.std.specs.List.{range_with_len}
use Rattle.std.proofs.lemmas.Option.{same_Some}
use Rattle.base.specs.Sets.{Has}
use Rattle.base.proofs.Roots.{Has-filter}
use Rattle.base_tree.proofs.Servers.{in-server}
use Rattle.filter_types.specs.Notice.{Attribute, IsNotice}
use Rattle.law_routing.specs.Net.{Net, PhasedCommand, Publish}
use Rattle.law_routing.specs.Server.{Publication}
use Rattle.law_routing.specs.AsOf.{times_delivered}
use Rattle.law_routing.specs.Order.{ordinals_delivered}
use Rattle.law_routing.specs.Owed.{IsPublication}
use Rattle.net_model.specs.Real.{real}
use Rattle.filter_text.specs.declared.command.Command.{Command}
use Rattle.filter_text.specs.declared.command.Command.TheVariants as commands
use Rattle.filter_text.specs.declared.id.Id.{Id}
use Rattle.net_model.specs.Parts.{ClientParts, NetParts}
use Rattle.net_model.specs.Meaning.{command_of, phased_command, deliveries_of}
use Rattle.net_model.specs.Nets.{home_of, clients_of, script_of, script_in}
use Rattle.output_flood.specs.Flooding.{net_in}
use Rattle.program_sequential.specs.Promise.{times, ordinals_in, IsOfNotice, IsScriptOfNotices, AreOfNotices}
use Rattle.program_sequential.specs.Runs.{IsClient}
use Rattle.base.proofs.Numbers.{eqb-self}

-- ids are counted alike
pub times-delivered : (net : Net real) (id : Id) (inbox : List (Publication real)) → times id (deliveries_of inbox) ≡ times_delivered real net id.publisher id.ordinal inbox
times-delivered net id [] = refl
times-delivered net id (x ∷ xs) = ap (λ n. cond ((id.publisher == x.publisher) && (id.ordinal == x.ordinal)) (suc n) n) (times-delivered net id xs)

-- ordinals are listed alike
pub ordinals-delivered : (net : Net real) (publisher : ℕ) (inbox : List (Publication real)) → ordinals_in publisher (deliveries_of inbox) ≡ ordinals_delivered real net publisher inbox
ordinals-delivered net publisher [] = refl
ordinals-delivered net publisher (x ∷ xs) = ap (λ l. cond (publisher == x.publisher) (x.ordinal ∷ l) l) (ordinals-delivered net publisher xs)

-- a client lives at its server
pub client-lives : (net : NetParts) (client : ℕ) → IsClient net client → Has client (clients_of net (home_of net client))
client-lives net client h =
    Has-filter (λ c. home_of net c == home_of net client) client (range_with_len 1 (length net.clients)) (in-server (length net.clients) client (h.0, h.1)) (eqb-self (home_of net client))

-- the notice of a command that publishes is one
of-publish : (c : Command) (n : List Attribute) → command_of c ≡ Publish n → IsOfNotice c → IsNotice n
of-publish (commands.Subscribe f) n e h = absurd cc
of-publish (commands.Unsubscribe f) n e h = absurd cc
of-publish (commands.Advertise a) n e h = absurd cc
of-publish (commands.Unadvertise a) n e h = absurd cc
of-publish (commands.Publish m) n e h = subst IsNotice (same m n e) h
  where
    same : (m n : List Attribute) → command_of (commands.Publish m) ≡ Publish n → m ≡ n
    same m n e = cc

in-script : (script : List (ℕ × Command)) (i : ℕ) (c : PhasedCommand real) (n : List Attribute) → IsScriptOfNotices script → slice_get (map phased_command script) i ≡ Some c → c.command ≡ Publish n
    → IsNotice n
in-script [] i c n h e p = absurd cc
in-script (s ∷ script) zero c n h e p = of-publish s.1 n (ap (λ (z : PhasedCommand real). z.command) (same_Some _ _ e) ∙ p) h.0
in-script (s ∷ script) (suc i) c n h e p = in-script script i c n h.1 e p

in-clients : (clients : List ClientParts) (place i : ℕ) (c : PhasedCommand real) (n : List Attribute) → AreOfNotices clients
    → slice_get (script_in (slice_get clients place)) i ≡ Some c → c.command ≡ Publish n → IsNotice n
in-clients [] place i c n h e p = absurd cc
in-clients (x ∷ xs) zero i c n h e p = in-script x.script i c n h.0 e p
in-clients (x ∷ xs) (suc place) i c n h e p = in-clients xs place i c n h.1 e p

of-client : (net : NetParts) (q i : ℕ) (c : PhasedCommand real) (n : List Attribute) → AreOfNotices net.clients → slice_get (script_of net q) i ≡ Some c → c.command ≡ Publish n → IsNotice n
of-client net zero i c n h e p = absurd cc
of-client net (suc place) i c n h e p = in-clients net.clients place i c n h e p

-- what is published are notices
pub published-notice : (net : NetParts) (q o k : ℕ) (n : List Attribute) → AreOfNotices net.clients → IsPublication real (net_in net k) q o k n → IsNotice n
published-notice net q o k n h p = of-client net q p.index p.command n h p.at p.publishes

-- lists that have the same at each place
pub listed : {A : Type 0} (g : ℕ → A) (m : ℕ) (xs : List A) → ((i : ℕ) (x : A) → slice_get xs i ≡ Some x → x ≡ g (m + i)) → xs ≡ map g (range_with_len m (length xs))
listed g m [] f = refl
listed {A = A} g m (x ∷ xs) f = ap (λ (y : A). y ∷ xs) (f 0 x refl ∙ ap g (omega arith)) ∙ ap (λ (l : List A). g m ∷ l) (listed g (m + 1) xs (λ i y e. f (suc i) y e ∙ ap g (omega arith)))
