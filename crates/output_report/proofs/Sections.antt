-- The text of the clients that are left, client by client.
use Rattle.std.proofs.Common.{◌≡◌, ℕ, zero, suc, ◌+◌, ◌<◌, Bool, List, [], ◌∷◌, ◌++◌, length, drop, get_or, refl, ap, subst, arith}
use Rattle.filter_text.specs.Deliveries.{Delivery}
use Rattle.net_model.specs.Parts.{ClientParts}
use Rattle.output_flood.specs.declared.owed.OwedRow.{OwedRow}
use Rattle.output_report.specs.Deliveries.{delivery_section, delivery_sections}
use Rattle.output_report.specs.Flood.{flood_section, flood_sections}

parts : (clients : List ClientParts) (b : Bool) (c d : ClientParts) (r s : List ℕ) (l m : List Delivery) → c ≡ d → r ≡ s → l ≡ m
    → delivery_section clients b d s m ≡ delivery_section clients b c r l
parts clients b c d r s l m p q t = rw (p, q, t) refl

left-suc : (clients : List ClientParts) (b : Bool) (cs : List ClientParts) (rs : List (List ℕ)) (ls : List (List Delivery)) (i : ℕ) (c : ClientParts) (r : List ℕ) (l : List Delivery)
    → i < length cs → length rs ≡ length cs → length ls ≡ length cs → c ≡ get_or cs i c → r ≡ get_or rs i r → l ≡ get_or ls i l
    → delivery_sections clients b (drop i cs) (drop i rs) (drop i ls)
    ≡ delivery_section clients b c r l ++ delivery_sections clients b (drop (suc i) cs) (drop (suc i) rs) (drop (suc i) ls)
left-suc clients b [] rs ls i c r l s e f p q t = absurd (omega (arith, s))
left-suc clients b (x ∷ cs) [] ls i c r l s e f p q t = absurd (omega (arith, e))
left-suc clients b (x ∷ cs) (y ∷ rs) [] i c r l s e f p q t = absurd (omega (arith, f))
left-suc clients b (x ∷ cs) (y ∷ rs) (z ∷ ls) zero c r l s e f p q t = ap (λ w. w ++ delivery_sections clients b cs rs ls) (parts clients b c x r y l z p q t)
left-suc clients b (x ∷ cs) (y ∷ rs) (z ∷ ls) (suc i) c r l s e f p q t =
    left-suc clients b cs rs ls i c r l (omega (arith, s)) (omega (arith, e)) (omega (arith, f)) p q t

-- the client at a place, and then those behind it
pub sections-next : (clients : List ClientParts) (b : Bool) (cs : List ClientParts) (rs : List (List ℕ)) (ls : List (List Delivery)) (i : ℕ) (c : ClientParts) (r : List ℕ) (l : List Delivery)
    → i < length cs → length rs ≡ length cs → length ls ≡ length cs → c ≡ get_or cs i c → r ≡ get_or rs i r → l ≡ get_or ls i l
    → delivery_sections clients b (drop i cs) (drop i rs) (drop i ls)
    ≡ delivery_section clients b c r l ++ delivery_sections clients b (drop (i + 1) cs) (drop (i + 1) rs) (drop (i + 1) ls)
sections-next clients b cs rs ls i c r l s e f p q t =
    subst (λ n. delivery_sections clients b (drop i cs) (drop i rs) (drop i ls)
    ≡ delivery_section clients b c r l ++ delivery_sections clients b (drop n cs) (drop n rs) (drop n ls)) {x = suc i} {y = i + 1}
    (omega arith) (left-suc clients b cs rs ls i c r l s e f p q t)

-- the same of what flooding brings
flood-parts : (clients : List ClientParts) (texts : List (List (List ℕ))) (c d : ClientParts) (r s : List ℕ) (l m : List OwedRow) → c ≡ d → r ≡ s → l ≡ m
    → flood_section clients texts d s m ≡ flood_section clients texts c r l
flood-parts clients texts c d r s l m p q t = rw (p, q, t) refl

flood-suc : (clients : List ClientParts) (texts : List (List (List ℕ))) (cs : List ClientParts) (rs : List (List ℕ)) (ls : List (List OwedRow)) (i : ℕ) (c : ClientParts) (r : List ℕ) (l : List OwedRow)
    → i < length cs → length rs ≡ length cs → length ls ≡ length cs → c ≡ get_or cs i c → r ≡ get_or rs i r → l ≡ get_or ls i l
    → flood_sections clients texts (drop i cs) (drop i rs) (drop i ls)
    ≡ flood_section clients texts c r l ++ flood_sections clients texts (drop (suc i) cs) (drop (suc i) rs) (drop (suc i) ls)
flood-suc clients texts [] rs ls i c r l s e f p q t = absurd (omega (arith, s))
flood-suc clients texts (x ∷ cs) [] ls i c r l s e f p q t = absurd (omega (arith, e))
flood-suc clients texts (x ∷ cs) (y ∷ rs) [] i c r l s e f p q t = absurd (omega (arith, f))
flood-suc clients texts (x ∷ cs) (y ∷ rs) (z ∷ ls) zero c r l s e f p q t =
    ap (λ w. w ++ flood_sections clients texts cs rs ls) (flood-parts clients texts c x r y l z p q t)
flood-suc clients texts (x ∷ cs) (y ∷ rs) (z ∷ ls) (suc i) c r l s e f p q t =
    flood-suc clients texts cs rs ls i c r l (omega (arith, s)) (omega (arith, e)) (omega (arith, f)) p q t

pub flood-next : (clients : List ClientParts) (texts : List (List (List ℕ))) (cs : List ClientParts) (rs : List (List ℕ)) (ls : List (List OwedRow)) (i : ℕ) (c : ClientParts) (r : List ℕ) (l : List OwedRow)
    → i < length cs → length rs ≡ length cs → length ls ≡ length cs → c ≡ get_or cs i c → r ≡ get_or rs i r → l ≡ get_or ls i l
    → flood_sections clients texts (drop i cs) (drop i rs) (drop i ls)
    ≡ flood_section clients texts c r l ++ flood_sections clients texts (drop (i + 1) cs) (drop (i + 1) rs) (drop (i + 1) ls)
flood-next clients texts cs rs ls i c r l s e f p q t =
    subst (λ n. flood_sections clients texts (drop i cs) (drop i rs) (drop i ls)
    ≡ flood_section clients texts c r l ++ flood_sections clients texts (drop n cs) (drop n rs) (drop n ls)) {x = suc i} {y = i + 1}
    (omega arith) (flood-suc clients texts cs rs ls i c r l s e f p q t)
