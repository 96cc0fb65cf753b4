-- The text of what flooding brings is the sorted text of the deliveries of a drained run.
use Rattle.std.proofs.Common.{◌≡◌, ℕ, zero, suc, ◌+◌, ◌≤◌, true, ◌↔◌, List, [], ◌∷◌, ◌++◌, length, slice_get, Some, refl, sym, ap, subst, ◌∙◌, arith}
use Rattle.std.specs.List.{flat_map}
use Rattle.base.specs.Sets.{Has}
use Rattle.law_routing.specs.Net.{Net}
use Rattle.law_routing.specs.Server.{Publication}
use Rattle.law_routing.specs.AsOf.{times_delivered}
use Rattle.filter_types.specs.Notice.{Attribute}
use Rattle.law_routing.specs.Owed.{IsPublication, IsOwed}
use Rattle.law_routing.proofs.Current.{one-publication}
use Rattle.law_phases.specs.Owing.{IsOwedByScripts, IsAllowedByScripts}
use Rattle.net_model.specs.Real.{real}
use Rattle.filter_text.specs.Deliveries.{Delivery}
use Rattle.net_model.specs.Meaning.{deliveries_of}
use Rattle.net_model.specs.Nets.{phased_net, home_of, clients_of}
use Rattle.net_model.specs.Parts.{ClientParts, NetParts}
use Rattle.output_flood.specs.declared.owed.OwedRow.{OwedRow}
use Rattle.output_flood.specs.Flooding.{net_in, AreRows, IsFlooding}
use Rattle.output_report.specs.Lines.{client_line, refused_line}
use Rattle.output_report.specs.Published.{texts_in}
use Rattle.output_report.specs.Flood.{row_line, flood_section, flood_sections, flood_text}
use Rattle.output_report.specs.Deliveries.{by_id, delivery_line, delivery_section, delivery_sections, deliveries_text}
use Rattle.output_report.specs.Drained.{inboxes, AreOwed, AllOwed}
use Rattle.output_report.proofs.Given.{given_same, once_apart, lines_same, lives_there}
use Rattle.base.proofs.Sets.{get-has}
use Rattle.output_flood.proofs.Flooded.{publisher_is}
use Rattle.base.proofs.Numbers.{suc-one-add}

next : (m i : ℕ) → suc m + i ≡ m + suc i
next m i = omega arith

none : (m : ℕ) → m + 0 ≡ m
none m = omega arith

section_same : (clients : List ClientParts) (texts : List (List (List ℕ))) (client : ClientParts) (refused : List ℕ) (rows : List OwedRow) (received : List Delivery)
    → flat_map (row_line clients texts) rows ≡ flat_map (delivery_line clients) (by_id received)
    → flood_section clients texts client refused rows ≡ delivery_section clients true client refused received
unfolding flood_section delivery_section
section_same clients texts client refused rows received e = ap (λ z. client_line client.name ++ flat_map refused_line refused ++ z) e

sections_same : (clients : List ClientParts) (texts : List (List (List ℕ))) (inbox : ℕ → List Delivery) (more : List ClientParts) (refused : List (List ℕ)) (rows : List (List OwedRow)) (m : ℕ)
    → length rows ≡ length more
    → ((i : ℕ) (list : List OwedRow) → slice_get rows i ≡ Some list → flat_map (row_line clients texts) list ≡ flat_map (delivery_line clients) (by_id (inbox (m + i))))
    → flood_sections clients texts more refused rows ≡ delivery_sections clients true more refused (inboxes inbox m more)
sections_same clients texts inbox [] refused rows m l f = refl
sections_same clients texts inbox (c ∷ more) [] rows m l f = refl
sections_same clients texts inbox (c ∷ more) (o ∷ refused) [] m l f = absurd (omega (arith, l))
sections_same clients texts inbox (c ∷ more) (o ∷ refused) (list ∷ rows) m l f =
    ap (λ z. z ++ flood_sections clients texts more refused rows)
    (section_same clients texts c o list (inbox m) (subst (λ z. flat_map (row_line clients texts) list ≡ flat_map (delivery_line clients) (by_id (inbox z))) (none m) (f 0 list refl)))
    ∙ ap (λ z. delivery_section clients true c o (inbox m) ++ z)
    (sections_same clients texts inbox more refused rows (suc m) (omega (arith, l))
    (λ i k e. subst (λ z. flat_map (row_line clients texts) k ≡ flat_map (delivery_line clients) (by_id (inbox z))) (sym (next m i)) (f (suc i) k e)))

-- a publication has one notice, whatever the phase's tree
plain : (net : NetParts) (q o k : ℕ) (n : List Attribute) → IsPublication real (net_in net k) q o k n → IsPublication real (net_in net 0) q o k n
plain net q o k n p = record { index = p.index; command = p.command; at = p.at; publishes = p.publishes; ordinal = p.ordinal; allowed = p.allowed; phase = p.phase }

same_notice : (net : NetParts) (q o k l : ℕ) (m n : List Attribute) → IsPublication real (net_in net k) q o k m → IsPublication real (net_in net l) q o l n → m ≡ n
same_notice net q o k l m n a b = (one-publication real (net_in net 0) q o k l m n (plain net q o k m a) (plain net q o l n b)).1

-- where all rows are owed, all that is allowed is owed
all_owed : (net : NetParts) (place : ℕ) (client : ClientParts) (rows : List OwedRow) → slice_get net.clients place ≡ Some client → AreRows net (suc place) rows
    → ((row : OwedRow) → Has row rows → row.must ≡ true)
    → (p : Publication real) → IsAllowedByScripts real (phased_net net) p (suc place) → IsOwedByScripts real (phased_net net) p (suc place)
all_owed net place client rows e are must p a =
    let r = are.whole p.publisher p.ordinal a.0 p.notice a.1 a.2 in
    let w = are.each (record { id = record { publisher = p.publisher; ordinal = p.ordinal }; must = r.0 }) r.1 in
    let o = w.must.0 (must (record { id = record { publisher = p.publisher; ordinal = p.ordinal }; must = r.0 }) r.1) in
    let q = publisher_is net p.publisher a.1.index a.1.command a.1.at in record {
      phase = w.phase;
      published = subst (λ z. IsPublication real (net_in net w.phase) p.publisher p.ordinal w.phase z) (same_notice net p.publisher p.ordinal w.phase a.0 w.notice p.notice w.published a.1) w.published;
      owed = subst (λ z. IsOwed real (net_in net w.phase) p.publisher w.phase z (suc place)) (same_notice net p.publisher p.ordinal w.phase a.0 w.notice p.notice w.published a.1) o;
      here = subst (λ z. Has z (clients_of net (home_of net z))) (sym q.number) (lives_there net q.whose q.client q.at);
      lives = lives_there net place client e;
    }

get_place : {A B : Type 0} (xs : List A) (ys : List B) (i : ℕ) (x : A) → length xs ≡ length ys → slice_get xs i ≡ Some x → (y : B) × (slice_get ys i ≡ Some y)
get_place [] ys i x l e = absurd cc
get_place (z ∷ xs) [] i x l e = absurd (omega (arith, l))
get_place (z ∷ xs) (y ∷ ys) zero x l e = (y, refl)
get_place (z ∷ xs) (y ∷ ys) (suc i) x l e = get_place xs ys i x (omega (arith, l)) e

-- what is used of a drained run: the inboxes of its clients
pub client_delivered : (net : NetParts) (rows : List (List OwedRow)) (refused : List (List ℕ)) → IsFlooding net rows refused
    → (box : ℕ → List (Publication real))
    → ((client : ℕ) → Has client (clients_of net (home_of net client))
    → ((p : Publication real) → IsAllowedByScripts real (phased_net net) p client → IsOwedByScripts real (phased_net net) p client)
    → (p : Publication real) → Has p (box client) ↔ IsAllowedByScripts real (phased_net net) p client)
    → (on : Net real) → ((client p o : ℕ) → times_delivered real on p o (box client) ≤ 1)
    → (place : ℕ) (list : List OwedRow) → slice_get rows place ≡ Some list → AreOwed list
    → flat_map (row_line net.clients (texts_in net.clients)) list ≡ flat_map (delivery_line net.clients) (by_id (deliveries_of (box (suc place))))
client_delivered net rows refused flooding box stable on once place list e must =
    let c = get_place rows net.clients place list flooding.all_rows e in
    let are = flooding.of_client place list e in
    lines_same net.clients (texts_in net.clients) list must
    ∙ ap (flat_map (delivery_line net.clients))
    (given_same net place c.0 list (box (suc place)) are
    (stable (suc place) (lives_there net place c.0 c.1) (all_owed net place c.0 list c.1 are must))
    (once_apart on (box (suc place)) (once (suc place))))

pub as_delivered : (net : NetParts) (rows : List (List OwedRow)) (refused : List (List ℕ)) → IsFlooding net rows refused → AllOwed rows
    → (box : ℕ → List (Publication real))
    → ((client : ℕ) → Has client (clients_of net (home_of net client))
    → ((p : Publication real) → IsAllowedByScripts real (phased_net net) p client → IsOwedByScripts real (phased_net net) p client)
    → (p : Publication real) → Has p (box client) ↔ IsAllowedByScripts real (phased_net net) p client)
    → (on : Net real) → ((client p o : ℕ) → times_delivered real on p o (box client) ≤ 1)
    → flood_text net refused rows ≡ deliveries_text net refused (inboxes (λ client. deliveries_of (box client)) 1 net.clients) true
as_delivered net rows refused flooding owed box stable on once =
    sections_same net.clients (texts_in net.clients) (λ client. deliveries_of (box client)) net.clients refused rows 1 flooding.all_rows (λ i list e.
    subst (λ z. flat_map (row_line net.clients (texts_in net.clients)) list ≡ flat_map (delivery_line net.clients) (by_id (deliveries_of (box z)))) (suc-one-add i)
    (client_delivered net rows refused flooding box stable on once i list e (owed list (get-has rows i list e))))
