-- Proves that the text of what clients received tells the lists that it is made of.
use Rattle.std.proofs.Common.{◌≡◌, inl, inr, ℕ, zero, suc, ◌<◌, ◌^◌, Bool, true, false, List, [], ◌∷◌, ◌++◌, length, map, refl, sym, ap, subst, ◌∙◌, arith, append_assoc}
use Rattle.std.specs.Prelude.{codes, slice_index_or}
use Rattle.std.specs.Char.{digit_value}
use Rattle.std.specs.Fmt.{decimal}
use Rattle.std.specs.List.{flat_map}
use Rattle.std.specs.Str.Parse.{AllDigits}
use Rattle.std.proofs.lemmas.Fmt.{decimal_injective, decimal_is_IsNumeral}
use Rattle.base.specs.Sets.{Has}
use Rattle.base.proofs.Lists.{append-cancel, get-below}
use Rattle.filter_text.specs.Deliveries.{Delivery}
use Rattle.filter_text.specs.declared.sent.Sent.{Sent}
use Rattle.net_model.specs.Parts.{ClientParts, NetParts, EntryParts}
use Rattle.net_model.specs.Sound.{IsAmong}
use Rattle.net_model.specs.Nets.{client_name}
use Rattle.output_report.specs.Lines.{client_line, publication_line, refused_line}
use Rattle.output_report.specs.Deliveries.{delivery_line, deliveries_text, delivery_section, delivery_sections, ordered}
use Rattle.output_report.specs.Trace.{trace_head, trace_text}
use Rattle.output_report.specs.Plain.{ArePlainLists, ArePlainNames, IsPlainDelivery, Lacks, MayFollow}
use Rattle.output_report.proofs.Strict.{by_id_has}

-- Bytes up to the first that ends them.

first-byte : (b c : ℕ) (x y : List ℕ) → b ∷ x ≡ c ∷ y → b ≡ c
first-byte b c x y e = cc

later-bytes : (b c : ℕ) (x y : List ℕ) → b ∷ x ≡ c ∷ y → x ≡ y
later-bytes b c x y e = cc

parted-once : (stop : ℕ) (a b x y : List ℕ) → Lacks stop a → Lacks stop b → a ++ stop ∷ x ≡ b ++ stop ∷ y → (a ≡ b) × (x ≡ y)
parted-once stop [] [] x y la lb e = (refl, later-bytes stop stop x y e)
parted-once stop [] (d ∷ b) x y la lb e = absurd (lb (inl (first-byte stop d x (b ++ stop ∷ y) e)))
parted-once stop (c ∷ a) [] x y la lb e = absurd (la (inl (sym (first-byte c stop (a ++ stop ∷ x) y e))))
parted-once stop (c ∷ a) (d ∷ b) x y la lb e =
    let rest = parted-once stop a b x y (λ h. la (inr h)) (λ h. lb (inr h)) (later-bytes c d (a ++ stop ∷ x) (b ++ stop ∷ y) e) in
    let first : c ≡ d = first-byte c d (a ++ stop ∷ x) (b ++ stop ∷ y) e in
    ((λ i. first i ∷ rest.0 i), rest.1)

digits-lack : (ds : List ℕ) → AllDigits 10 ds → Lacks 32 ds
digits-lack [] all h = h
digits-lack (c ∷ ds) all (inl e) = let z : digit_value 32 < 10 = subst (λ (n : ℕ). digit_value n < 10) (sym e) all.0 in absurd (omega (arith, z))
digits-lack (c ∷ ds) all (inr h) = digits-lack ds all.1 h

decimal-lacks : (n : ℕ) → n < 2 ^ 64 → Lacks 32 (decimal n)
decimal-lacks n l = digits-lack (decimal n) (decimal_is_IsNumeral n l).0.1

-- a number with a space behind it
number-once : (m n : ℕ) (x y : List ℕ) → m < 2 ^ 64 → n < 2 ^ 64 → decimal m ++ 32 ∷ x ≡ decimal n ++ 32 ∷ y → (m ≡ n) × (x ≡ y)
number-once m n x y l k e =
    let w = parted-once 32 (decimal m) (decimal n) x y (decimal-lacks m l) (decimal-lacks n k) e in
    (decimal_injective m n l k w.0, w.1)

-- What stands behind a list of lines: nothing, or a line with another first byte.

abbrev BeginsNot : ℕ → List ℕ → Type 0
BeginsNot byte [] = Unit {0}
BeginsNot byte (b ∷ bytes) = b ≡ byte → ⊥

not-here : (byte : ℕ) (x y : List ℕ) → BeginsNot byte x → x ≡ byte ∷ y → ⊥
not-here byte x y n e = subst (BeginsNot byte) e n refl

-- Refused publishes.

refused-spelled : (n : ℕ) (x : List ℕ) → refused_line n ++ x ≡ codes "refused " ++ (decimal n ++ 32 ∷ (codes "unadvertised\n" ++ x))
unfolding refused_line
refused-spelled n x = ap (λ (z : List ℕ). codes "refused " ++ z) (append_assoc (decimal n) (codes " unadvertised\n") x)

refused-here : (n : ℕ) (ns : List ℕ) (x : List ℕ) → flat_map refused_line (n ∷ ns) ++ x ≡ codes "refused " ++ (decimal n ++ 32 ∷ (codes "unadvertised\n" ++ (flat_map refused_line ns ++ x)))
refused-here n ns x = append_assoc (refused_line n) (flat_map refused_line ns) x ∙ refused-spelled n (flat_map refused_line ns ++ x)

refused-once : (ms ns : List ℕ) (x y : List ℕ) → ((m : ℕ) → Has m ms → m < 2 ^ 64) → ((n : ℕ) → Has n ns → n < 2 ^ 64) → BeginsNot 114 x → BeginsNot 114 y
    → flat_map refused_line ms ++ x ≡ flat_map refused_line ns ++ y → (ms ≡ ns) × (x ≡ y)
refused-once [] [] x y lm ln bx by e = (refl, e)
refused-once [] (n ∷ ns) x y lm ln bx by e = absurd (not-here 114 x _ bx (e ∙ refused-here n ns y))
refused-once (m ∷ ms) [] x y lm ln bx by e = absurd (not-here 114 y _ by (sym e ∙ refused-here m ms x))
refused-once (m ∷ ms) (n ∷ ns) x y lm ln bx by e =
    let bare = append-cancel (codes "refused ") _ _ (sym (refused-here m ms x) ∙ e ∙ refused-here n ns y) in
    let number = number-once m n _ _ (lm m (inl refl)) (ln n (inl refl)) bare in
    let rest = refused-once ms ns x y (λ k h. lm k (inr h)) (λ k h. ln k (inr h)) bx by (append-cancel (codes "unadvertised\n") _ _ number.1) in
    ((λ i. number.0 i ∷ rest.0 i), rest.1)

-- Names of clients.

name-at : (clients : List ClientParts) (place : ℕ) (d : ClientParts) → place < length clients → (client_name clients (suc place) ≡ (slice_index_or clients place d).name) × Has (slice_index_or clients place d) clients
name-at [] place d l = absurd (omega (arith, l))
name-at (c ∷ clients) zero d l = (refl, inl refl)
name-at (c ∷ clients) (suc place) d l = let w = name-at clients place d (omega (arith, l)) in (w.0, inr w.1)

module _ (clients : List ClientParts) (names : ArePlainNames clients) where
  one-place : (d : ClientParts) (p q : ℕ) → p < length clients → q < length clients → client_name clients (suc p) ≡ client_name clients (suc q) → p < q → ⊥
  one-place d p q lp lq e less = names.differ p q d less lq (sym (name-at clients p d lp).0 ∙ e ∙ (name-at clients q d lq).0)

  same-place : (d : ClientParts) (p q : ℕ) → p < length clients → q < length clients → client_name clients (suc p) ≡ client_name clients (suc q) → p ≡ q
  same-place d p q lp lq e =
      let up : p < q → ⊥ = one-place d p q lp lq e in
      let down : q < p → ⊥ = one-place d q p lq lp (sym e) in
      omega (arith, up, down)

  one-client : (p q : ℕ) → IsAmong (length clients) p → IsAmong (length clients) q → client_name clients p ≡ client_name clients q → p ≡ q
  one-client zero q ip iq e = absurd (omega (arith, ip.0))
  one-client (suc p) zero ip iq e = absurd (omega (arith, iq.0))
  one-client (suc p) (suc q) ip iq e =
      let lp : p < length clients = omega (arith, ip.1) in
      let lq : q < length clients = omega (arith, iq.1) in
      let d = (get-below clients p lp).0 in
      ap suc (same-place d p q lp lq e)

  name-lacks : (p : ℕ) → IsAmong (length clients) p → Lacks 32 (client_name clients p)
  name-lacks zero ip = absurd (omega (arith, ip.0))
  name-lacks (suc p) ip =
      let lp : p < length clients = omega (arith, ip.1) in
      let d = (get-below clients p lp).0 in
      let w = name-at clients p d lp in
      subst (Lacks 32) (sym w.0) (names.words (slice_index_or clients p d) w.1)

  -- Deliveries.

  delivery-spelled : (d : Delivery) (x : List ℕ) → delivery_line clients d ++ x ≡ codes "deliver " ++ (client_name clients d.id.publisher ++ 32 ∷ (decimal d.id.ordinal ++ 32 ∷ (d.bytes ++ 10 ∷ x)))
  unfolding delivery_line publication_line
  delivery-spelled d x = simp append_assoc

  delivery-here : (d : Delivery) (ds : List Delivery) (x : List ℕ)
      → flat_map (delivery_line clients) (d ∷ ds) ++ x
      ≡ codes "deliver " ++ (client_name clients d.id.publisher ++ 32 ∷ (decimal d.id.ordinal ++ 32 ∷ (d.bytes ++ 10 ∷ (flat_map (delivery_line clients) ds ++ x))))
  delivery-here d ds x = append_assoc (delivery_line clients d) (flat_map (delivery_line clients) ds) x ∙ delivery-spelled d (flat_map (delivery_line clients) ds ++ x)

  delivery-once : (d e : Delivery) (x y : List ℕ) → IsPlainDelivery (length clients) d → IsPlainDelivery (length clients) e
      → client_name clients d.id.publisher ++ 32 ∷ (decimal d.id.ordinal ++ 32 ∷ (d.bytes ++ 10 ∷ x)) ≡ client_name clients e.id.publisher ++ 32 ∷ (decimal e.id.ordinal ++ 32 ∷ (e.bytes ++ 10 ∷ y))
      → (d ≡ e) × (x ≡ y)
  delivery-once d e x y pd pe same =
      let name = parted-once 32 (client_name clients d.id.publisher) (client_name clients e.id.publisher) _ _ (name-lacks d.id.publisher pd.publisher) (name-lacks e.id.publisher pe.publisher) same in
      let number = number-once d.id.ordinal e.id.ordinal _ _ pd.ordinal pe.ordinal name.1 in
      let line = parted-once 10 d.bytes e.bytes x y pd.line pe.line number.1 in
      let publisher : d.id.publisher ≡ e.id.publisher = one-client d.id.publisher e.id.publisher pd.publisher pe.publisher name.0 in
      ((λ i. record { id = record { publisher = publisher i; ordinal = number.0 i }; bytes = line.0 i }), line.1)

  deliveries-once : (ds es : List Delivery) (x y : List ℕ) → ((d : Delivery) → Has d ds → IsPlainDelivery (length clients) d) → ((e : Delivery) → Has e es → IsPlainDelivery (length clients) e)
      → BeginsNot 100 x → BeginsNot 100 y → flat_map (delivery_line clients) ds ++ x ≡ flat_map (delivery_line clients) es ++ y → (ds ≡ es) × (x ≡ y)
  deliveries-once [] [] x y pd pe bx by same = (refl, same)
  deliveries-once [] (e ∷ es) x y pd pe bx by same = absurd (not-here 100 x _ bx (same ∙ delivery-here e es y))
  deliveries-once (d ∷ ds) [] x y pd pe bx by same = absurd (not-here 100 y _ by (sym same ∙ delivery-here d ds x))
  deliveries-once (d ∷ ds) (e ∷ es) x y pd pe bx by same =
      let bare = append-cancel (codes "deliver ") _ _ (sym (delivery-here d ds x) ∙ same ∙ delivery-here e es y) in
      let first = delivery-once d e _ _ (pd d (inl refl)) (pe e (inl refl)) bare in
      let rest = deliveries-once ds es x y (λ z h. pd z (inr h)) (λ z h. pe z (inr h)) bx by first.1 in
      ((λ i. first.0 i ∷ rest.0 i), rest.1)

  -- Sections.

  deliveries-begin : (ds : List Delivery) (x : List ℕ) → BeginsNot 114 x → BeginsNot 114 (flat_map (delivery_line clients) ds ++ x)
  deliveries-begin [] x b = b
  deliveries-begin (d ∷ ds) x b = subst (BeginsNot 114) (sym (delivery-here d ds x)) (λ e. absurd (omega (arith, e)))

  tail-begins : (byte : ℕ) → (116 ≡ byte → ⊥) → (x : List ℕ) → MayFollow x → BeginsNot byte x
  tail-begins byte n [] f = tt
  tail-begins byte n (b ∷ x) f = λ e. n (sym f ∙ e)

  sections-begin : (byte : ℕ) → (99 ≡ byte → ⊥) → (sorted : Bool) (rest : List ClientParts) (refused : List (List ℕ)) (received : List (List Delivery)) (x : List ℕ) → BeginsNot byte x
      → BeginsNot byte (delivery_sections clients sorted rest refused received ++ x)
  unfolding delivery_section client_line
  sections-begin byte n sorted [] refused received x b = b
  sections-begin byte n sorted (c ∷ rest) [] received x b = b
  sections-begin byte n sorted (c ∷ rest) (o ∷ refused) [] x b = b
  sections-begin byte n sorted (c ∷ rest) (o ∷ refused) (r ∷ received) x b = n

  section-here : (sorted : Bool) (c : ClientParts) (o : List ℕ) (r : List Delivery) (x : List ℕ)
      → delivery_section clients sorted c o r ++ x ≡ client_line c.name ++ (flat_map refused_line o ++ (flat_map (delivery_line clients) (ordered sorted r) ++ x))
  unfolding delivery_section
  section-here sorted c o r x = simp append_assoc

  ordered-has : (sorted : Bool) (ds : List Delivery) (d : Delivery) → Has d (ordered sorted ds) → Has d ds
  ordered-has true ds d h = by_id_has ds d h
  ordered-has false ds d h = h

  section-once : (sorted : Bool) (c : ClientParts) (o p : List ℕ) (r q : List Delivery) (x y : List ℕ)
      → ((m : ℕ) → Has m o → m < 2 ^ 64) → ((n : ℕ) → Has n p → n < 2 ^ 64)
      → ((d : Delivery) → Has d r → IsPlainDelivery (length clients) d) → ((e : Delivery) → Has e q → IsPlainDelivery (length clients) e)
      → BeginsNot 114 x → BeginsNot 114 y → BeginsNot 100 x → BeginsNot 100 y
      → delivery_section clients sorted c o r ++ x ≡ delivery_section clients sorted c p q ++ y → (o ≡ p) × (ordered sorted r ≡ ordered sorted q) × (x ≡ y)
  section-once sorted c o p r q x y lo lp lr lq rx ry dx dy same =
      let bare = append-cancel (client_line c.name) _ _ (sym (section-here sorted c o r x) ∙ same ∙ section-here sorted c p q y) in
      let left = refused-once o p _ _ lo lp (deliveries-begin (ordered sorted r) x rx) (deliveries-begin (ordered sorted q) y ry) bare in
      let right = deliveries-once (ordered sorted r) (ordered sorted q) x y (λ d h. lr d (ordered-has sorted r d h)) (λ d h. lq d (ordered-has sorted q d h)) dx dy left.1 in
      (left.0, right.0, right.1)

  none : {A : Type 0} (xs : List A) → length xs ≡ 0 → xs ≡ []
  none [] l = refl
  none (x ∷ xs) l = absurd (omega (arith, l))

  sections-once : (sorted : Bool) (rest : List ClientParts) (os ps : List (List ℕ)) (rs qs : List (List Delivery)) (x y : List ℕ)
      → length os ≡ length rest → length ps ≡ length rest → length rs ≡ length rest → length qs ≡ length rest
      → ((list : List ℕ) → Has list os → (m : ℕ) → Has m list → m < 2 ^ 64) → ((list : List ℕ) → Has list ps → (n : ℕ) → Has n list → n < 2 ^ 64)
      → ((list : List Delivery) → Has list rs → (d : Delivery) → Has d list → IsPlainDelivery (length clients) d)
      → ((list : List Delivery) → Has list qs → (e : Delivery) → Has e list → IsPlainDelivery (length clients) e)
      → MayFollow x → MayFollow y → delivery_sections clients sorted rest os rs ++ x ≡ delivery_sections clients sorted rest ps qs ++ y
      → (os ≡ ps) × (map (ordered sorted) rs ≡ map (ordered sorted) qs) × (x ≡ y)
  sections-once sorted [] os ps rs qs x y so sp sr sq lo lp lr lq fx fy same = (none os so ∙ sym (none ps sp), ap (map (ordered sorted)) (none rs sr ∙ sym (none qs sq)), same)
  sections-once sorted (c ∷ rest) [] ps rs qs x y so sp sr sq lo lp lr lq fx fy same = absurd (omega (arith, so))
  sections-once sorted (c ∷ rest) (o ∷ os) [] rs qs x y so sp sr sq lo lp lr lq fx fy same = absurd (omega (arith, sp))
  sections-once sorted (c ∷ rest) (o ∷ os) (p ∷ ps) [] qs x y so sp sr sq lo lp lr lq fx fy same = absurd (omega (arith, sr))
  sections-once sorted (c ∷ rest) (o ∷ os) (p ∷ ps) (r ∷ rs) [] x y so sp sr sq lo lp lr lq fx fy same = absurd (omega (arith, sq))
  sections-once sorted (c ∷ rest) (o ∷ os) (p ∷ ps) (r ∷ rs) (q ∷ qs) x y so sp sr sq lo lp lr lq fx fy same =
      let one = delivery_sections clients sorted rest os rs in
      let two = delivery_sections clients sorted rest ps qs in
      let here = section-once sorted c o p r q (one ++ x) (two ++ y) (lo o (inl refl)) (lp p (inl refl)) (lr r (inl refl)) (lq q (inl refl))
      (begins 114 (λ e. absurd (omega (arith, e))) (λ e. absurd (omega (arith, e))) os rs x fx) (begins 114 (λ e. absurd (omega (arith, e))) (λ e. absurd (omega (arith, e))) ps qs y fy)
      (begins 100 (λ e. absurd (omega (arith, e))) (λ e. absurd (omega (arith, e))) os rs x fx) (begins 100 (λ e. absurd (omega (arith, e))) (λ e. absurd (omega (arith, e))) ps qs y fy)
      (sym (append_assoc (delivery_section clients sorted c o r) one x) ∙ same ∙ append_assoc (delivery_section clients sorted c p q) two y) in
      let later = sections-once sorted rest os ps rs qs x y (omega (arith, so)) (omega (arith, sp)) (omega (arith, sr)) (omega (arith, sq))
      (λ l h. lo l (inr h)) (λ l h. lp l (inr h)) (λ l h. lr l (inr h)) (λ l h. lq l (inr h)) fx fy here.2 in
      ((λ i. here.0 i ∷ later.0 i), (λ i. here.1 i ∷ later.1 i), later.2)
    where
      begins : (byte : ℕ) → (99 ≡ byte → ⊥) → (116 ≡ byte → ⊥) → (refused : List (List ℕ)) (received : List (List Delivery)) (z : List ℕ) → MayFollow z
          → BeginsNot byte (delivery_sections clients sorted rest refused received ++ z)
      begins byte n t refused received z f = sections-begin byte n sorted rest refused received z (tail-begins byte t z f)

-- THE LISTS OF A TEXT

pub one-text : (net : NetParts) (sorted : Bool) → ArePlainNames net.clients → (refused others : List (List ℕ)) (received deliveries : List (List Delivery)) (tail more : List ℕ)
    → ArePlainLists net.clients refused received → ArePlainLists net.clients others deliveries → MayFollow tail → MayFollow more
    → deliveries_text net refused received sorted ++ tail ≡ deliveries_text net others deliveries sorted ++ more
    → (refused ≡ others) × (map (ordered sorted) received ≡ map (ordered sorted) deliveries) × (tail ≡ more)
one-text net sorted names refused others received deliveries tail more a b f g same =
    sections-once net.clients names sorted net.clients refused others received deliveries tail more a.all_refused b.all_refused a.all_received b.all_received a.ordinals b.ordinals a.deliveries b.deliveries f g same

pub trace-follows : (net : NetParts) (journal : List EntryParts) (outs : List (List Sent)) → MayFollow (trace_text net journal outs)
unfolding trace_head
trace-follows net journal outs = refl
