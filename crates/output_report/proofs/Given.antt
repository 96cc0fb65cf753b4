-- The rows of a client are what it received.
use Rattle.std.proofs.Common.{◌≡◌, ℕ, zero, suc, ◌≤◌, Bool, true, false, cond, ◌&&◌, ◌==◌, inl, inr, ◌↔◌, List, [], ◌∷◌, ◌++◌, map, take, length, slice_get, slice_index_or, Some, refl, sym, ap, subst, ◌∙◌, arith}
use Rattle.std.specs.List.{flat_map, range_with_len}
use Rattle.std.proofs.lemmas.Bool.Decides.{nat_tests}
use Rattle.std.proofs.lemmas.Option.{same_Some, slice_get_within}
use Rattle.base.specs.Sets.{Has, IsRising}
use Rattle.base.proofs.Roots.{Has-filter}
use Rattle.filter_types.specs.Notice.{Attribute}
use Rattle.law_routing.specs.Net.{Net, PhasedCommand, Publish}
use Rattle.law_routing.specs.Clients.{is_publish, ordinal}
use Rattle.law_routing.specs.Server.{Publication}
use Rattle.law_routing.specs.AsOf.{times_delivered}
use Rattle.law_routing.specs.Owed.{IsPublication}
use Rattle.law_phases.specs.Owing.{IsAllowedByScripts}
use Rattle.net_model.specs.Real.{real}
use Rattle.filter_text.specs.NoticeText.{notice_text}
use Rattle.filter_text.specs.declared.command.Command.{Command as WireCommand}
use Rattle.filter_text.specs.declared.command.Command.TheVariants as commands
use Rattle.filter_text.specs.Deliveries.{Delivery}
use Rattle.net_model.specs.Meaning.{command_of, phased_command, delivery_of, deliveries_of}
use Rattle.net_model.specs.Nets.{phased_net, script_in, script_of, home_of, clients_of}
use Rattle.net_model.specs.Parts.{ClientParts, NetParts}
use Rattle.output_flood.specs.declared.owed.OwedRow.{OwedRow}
use Rattle.output_flood.specs.Flooding.{net_in, row_before, row_of, AreRows}
use Rattle.output_report.specs.Lines.{publication_line}
use Rattle.output_report.specs.Published.{script_texts, texts_in, by_number, text_at}
use Rattle.output_report.specs.Flood.{row_word, row_line}
use Rattle.output_report.specs.Deliveries.{by_id, delivery_line}
use Rattle.output_report.proofs.Strict.{d_before, one_rising, AreApart, by_id_has, has_by_id, by_id_rising, never_itself, never_both}
use Rattle.base.proofs.Sets.{map-has, has-map, range-has}
use Rattle.output_flood.proofs.Publishing.{publish_back}
use Rattle.output_flood.proofs.Flooded.{Publisher, publisher_is}
use Rattle.base.proofs.Numbers.{eqb-self}

counts : (script : List (ℕ × WireCommand)) (i : ℕ) (c : PhasedCommand real) (n : List Attribute) → slice_get (map phased_command script) i ≡ Some c → c.command ≡ Publish n
    → 1 ≤ ordinal real (take (suc i) (map phased_command script))
counts [] i c n e p = absurd cc
counts (s ∷ script) zero c n e p =
    let is : s.1 ≡ commands.Publish n = publish_back s.1 n (ap (λ (z : PhasedCommand real). z.command) (same_Some _ _ e) ∙ p) in
    subst (λ z. 1 ≤ cond (is_publish real (command_of z)) (suc (ordinal real (take 0 (map phased_command script)))) (ordinal real (take 0 (map phased_command script)))) (sym is) (omega arith)
counts (s ∷ script) (suc i) c n e p = go (is_publish real (command_of s.1)) (counts script i c n e p)
  where
    go : (b : Bool) → 1 ≤ ordinal real (take (suc i) (map phased_command script))
        → 1 ≤ cond b (suc (ordinal real (take (suc i) (map phased_command script)))) (ordinal real (take (suc i) (map phased_command script)))
    go true l = omega (arith, l)
    go false l = l

later : (t : List ℕ) (ts : List (List ℕ)) (k : ℕ) → 1 ≤ k → by_number (t ∷ ts) (suc k) ≡ by_number ts k
later t ts zero l = absurd (omega (arith, l))
later t ts (suc k) l = refl

text_of : (script : List (ℕ × WireCommand)) (i : ℕ) (c : PhasedCommand real) (n : List Attribute) → slice_get (map phased_command script) i ≡ Some c → c.command ≡ Publish n
    → by_number (script_texts script) (ordinal real (take (suc i) (map phased_command script))) ≡ notice_text n
text_of [] i c n e p = absurd cc
text_of (s ∷ script) zero c n e p = go s.1 (publish_back s.1 n (ap (λ (z : PhasedCommand real). z.command) (same_Some _ _ e) ∙ p))
  where
    go : (w : WireCommand) → w ≡ commands.Publish n
        → by_number (script_texts ((s.0, w) ∷ script)) (ordinal real (take 1 (map phased_command ((s.0, w) ∷ script)))) ≡ notice_text n
    go w is = subst (λ z. by_number (script_texts ((s.0, z) ∷ script)) (ordinal real (take 1 (map phased_command ((s.0, z) ∷ script)))) ≡ notice_text n) (sym is) refl
text_of (s ∷ script) (suc i) c n e p = go s.1 (text_of script i c n e p) (counts script i c n e p)
  where
    go : (w : WireCommand) → by_number (script_texts script) (ordinal real (take (suc i) (map phased_command script))) ≡ notice_text n
        → 1 ≤ ordinal real (take (suc i) (map phased_command script))
        → by_number (script_texts ((s.0, w) ∷ script)) (ordinal real (take (suc (suc i)) (map phased_command ((s.0, w) ∷ script)))) ≡ notice_text n
    go (commands.Subscribe f) ih l = ih
    go (commands.Unsubscribe f) ih l = ih
    go (commands.Advertise a) ih l = ih
    go (commands.Unadvertise a) ih l = ih
    go (commands.Publish m) ih l = later (notice_text m) (script_texts script) (ordinal real (take (suc i) (map phased_command script))) l ∙ ih

texts_get : (clients : List ClientParts) (place : ℕ) (client : ClientParts) → slice_get clients place ≡ Some client → slice_index_or (texts_in clients) place [] ≡ script_texts client.script
texts_get [] place client e = absurd cc
texts_get (c ∷ clients) zero client e = ap (λ (z : ClientParts). script_texts z.script) (same_Some _ _ e)
texts_get (c ∷ clients) (suc place) client e = texts_get clients place client e

-- a publisher lives at its server
pub lives_there : (net : NetParts) (place : ℕ) (client : ClientParts) → slice_get net.clients place ≡ Some client
    → Has (suc place) (clients_of net (home_of net (suc place)))
lives_there net place client e =
    Has-filter (λ c. home_of net c == home_of net (suc place)) (suc place) (range_with_len 1 (length net.clients))
    (range-has 1 (length net.clients) (suc place) (omega arith) (omega (arith, slice_get_within net.clients place client e)))
    (eqb-self (home_of net (suc place)))

-- the text of a publication is that of its notice
pub published_text : (net : NetParts) (q o k : ℕ) (n : List Attribute) → IsPublication real (net_in net k) q o k n
    → text_at (texts_in net.clients) (record { publisher = q; ordinal = o }) ≡ notice_text n
published_text net q o k n p = go (publisher_is net q p.index p.command p.at)
  where
    go : Publisher net q → text_at (texts_in net.clients) (record { publisher = q; ordinal = o }) ≡ notice_text n
    go w =
        let s : script_of net q ≡ map phased_command w.client.script = ap (script_of net) w.number ∙ ap script_in w.at in
        ap (λ z. by_number (by_number (texts_in net.clients) z) o) w.number
        ∙ ap (λ z. by_number z o) (texts_get net.clients w.whose w.client w.at)
        ∙ ap (by_number (script_texts w.client.script)) (sym p.ordinal ∙ ap (λ z. ordinal real (take (suc p.index) z)) s)
        ∙ text_of w.client.script p.index p.command n (ap (λ z. slice_get z p.index) (sym s) ∙ p.at) p.publishes

-- what is delivered by a row
abbrev pub given_by : List (List (List ℕ)) → OwedRow → Delivery
given_by texts row = record { id = row.id; bytes = text_at texts row.id }

line_same : (clients : List ClientParts) (texts : List (List (List ℕ))) (row : OwedRow) → row.must ≡ true → row_line clients texts row ≡ delivery_line clients (given_by texts row)
unfolding row_line delivery_line
line_same clients texts row e = ap (λ b. publication_line (row_word b) clients row.id (text_at texts row.id)) e

pub lines_same : (clients : List ClientParts) (texts : List (List (List ℕ))) (rows : List OwedRow) → ((row : OwedRow) → Has row rows → row.must ≡ true)
    → flat_map (row_line clients texts) rows ≡ flat_map (delivery_line clients) (map (given_by texts) rows)
lines_same clients texts [] f = refl
lines_same clients texts (row ∷ rows) f =
    ap (λ z. z ++ flat_map (row_line clients texts) rows) (line_same clients texts row (f row (inl refl)))
    ∙ ap (λ z. delivery_line clients (given_by texts row) ++ z) (lines_same clients texts rows (λ r h. f r (inr h)))

given_rising : (texts : List (List (List ℕ))) (rows : List OwedRow) → IsRising row_before rows → IsRising d_before (map (given_by texts) rows)
given_rising texts [] r = tt
given_rising texts (row ∷ rows) r = (
  (λ d h. (let w = has-map (given_by texts) rows d h in subst (λ z. d_before (given_by texts row) z ≡ true) (sym w.2) (r.0 w.0 w.1))),
  given_rising texts rows r.1,
)

-- what is given once stands apart
hit : (net : Net real) (x : Publication real) (xs : List (Publication real)) (p o : ℕ) → x.publisher ≡ p → x.ordinal ≡ o
    → times_delivered real net p o (x ∷ xs) ≡ suc (times_delivered real net p o xs)
hit net x xs p o e f = rw (one x.publisher p e) (rw (one x.ordinal o f) refl)
  where
    one : (a b : ℕ) → a ≡ b → (b == a) ≡ true
    one a b e = grind (arith, nat_tests, e)

times_has : (net : Net real) (x : Publication real) (xs : List (Publication real)) (p o : ℕ) → Has x xs → x.publisher ≡ p → x.ordinal ≡ o → 1 ≤ times_delivered real net p o xs
times_has net x [] p o h e f = absurd h
times_has net x (y ∷ xs) p o (inl i) e f =
    omega (arith, hit net y xs p o (ap (λ (z : Publication real). z.publisher) (sym i) ∙ e) (ap (λ (z : Publication real). z.ordinal) (sym i) ∙ f))
times_has net x (y ∷ xs) p o (inr h) e f = go ((p == y.publisher) && (o == y.ordinal)) (times_has net x xs p o h e f)
  where
    go : (b : Bool) → 1 ≤ times_delivered real net p o xs → 1 ≤ cond b (suc (times_delivered real net p o xs)) (times_delivered real net p o xs)
    go true l = omega (arith, l)
    go false l = l

tail_times : (net : Net real) (x : Publication real) (xs : List (Publication real)) (p o : ℕ) → times_delivered real net p o xs ≤ times_delivered real net p o (x ∷ xs)
tail_times net x xs p o = go ((p == x.publisher) && (o == x.ordinal))
  where
    go : (b : Bool) → times_delivered real net p o xs ≤ cond b (suc (times_delivered real net p o xs)) (times_delivered real net p o xs)
    go true = omega arith
    go false = omega arith

pub once_apart : (net : Net real) (box : List (Publication real)) → ((p o : ℕ) → times_delivered real net p o box ≤ 1) → AreApart (deliveries_of box)
once_apart net [] f = tt
once_apart net (x ∷ box) f = (
  (λ d h a b. (let w = has-map delivery_of box d h in
      absurd (omega (
        arith,
        f x.publisher x.ordinal,
        hit net x box x.publisher x.ordinal refl refl,
        times_has net w.0 box x.publisher x.ordinal w.1
            (sym (a ∙ ap (λ (z : Delivery). z.id.publisher) w.2)) (sym (b ∙ ap (λ (z : Delivery). z.id.ordinal) w.2)),
      )))),
  once_apart net box (λ p o. omega (arith, tail_times net x box p o, f p o)),
)

-- what a client is given by its rows is what it received, by ids
pub given_same : (net : NetParts) (place : ℕ) (client : ClientParts) (rows : List OwedRow) (box : List (Publication real))
    → AreRows net (suc place) rows
    → ((p : Publication real) → Has p box ↔ IsAllowedByScripts real (phased_net net) p (suc place))
    → AreApart (deliveries_of box)
    → map (given_by (texts_in net.clients)) rows ≡ by_id (deliveries_of box)
given_same net place client rows box are stable apart =
    one_rising d_before never_itself never_both (map (given_by texts) rows) (by_id (deliveries_of box))
    (given_rising texts rows are.rising) (by_id_rising (deliveries_of box) apart) to from
  where
    texts : List (List (List ℕ))
    texts = texts_in net.clients

    publication : ℕ → ℕ → List Attribute → Publication real
    publication q o n = record { publisher = q; ordinal = o; notice = n }

    to : (d : Delivery) → Has d (map (given_by texts) rows) → Has d (by_id (deliveries_of box))
    to d h =
        let w = has-map (given_by texts) rows d h in
        let r = are.each w.0 w.1 in
        has_by_id (deliveries_of box) d
        (subst (λ z. Has z (deliveries_of box))
        (sym (w.2 ∙ ap (λ z. record { id = w.0.id; bytes = z }) (published_text net w.0.id.publisher w.0.id.ordinal r.phase r.notice r.published)))
        (map-has delivery_of box (publication w.0.id.publisher w.0.id.ordinal r.notice)
        ((stable (publication w.0.id.publisher w.0.id.ordinal r.notice)).1 (r.phase, r.published, r.allowed))))

    from : (d : Delivery) → Has d (by_id (deliveries_of box)) → Has d (map (given_by texts) rows)
    from d h =
        let w = has-map delivery_of box d (by_id_has (deliveries_of box) d h) in
        let a = (stable w.0).0 w.1 in
        let r = are.whole w.0.publisher w.0.ordinal a.0 w.0.notice a.1 a.2 in
        subst (λ z. Has z (map (given_by texts) rows))
        (sym (w.2 ∙ ap (λ z. record { id = record { publisher = w.0.publisher; ordinal = w.0.ordinal }; bytes = z }) (sym (published_text net w.0.publisher w.0.ordinal a.0 w.0.notice a.1))))
        (map-has (given_by texts) rows (row_of w.0.publisher w.0.ordinal r.0) r.1)
