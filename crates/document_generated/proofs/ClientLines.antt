-- The lines of the clients: each has a name of its own.
use Rattle.std.proofs.Common.{◌≡◌, ◌⊎◌, inr, ℕ, zero, suc, ◌+◌, ◌*◌, ◌<◌, ◌≤◌, ◌%◌, true, false, ◌||◌, List, [], ◌∷◌, ◌++◌, length, refl, sym, ap, subst, ◌∙◌, arith, append_assoc}
use Rattle.std.specs.Prelude.{codes, nat_lt}
use Rattle.std.specs.Str.{bytes_eq}
use Rattle.std.specs.Fmt.{decimal}
use Rattle.std.proofs.lemmas.List.{append-nil}
use Rattle.std.proofs.lemmas.Fmt.{decimal_injective, decimal_is_IsNumeral}
use Rattle.std.proofs.lemmas.Grind.{common_steps}
use Rattle.std.proofs.lemmas.Bool.{false_from_ne_true}
use Rattle.std.proofs.lemmas.Bool.Decides.{nat_tests}
use Rattle.std.specs.Char.{digit_value}
use Rattle.std.specs.Str.Parse.{AllDigits}
use Rattle.base.proofs.Numbers.{digit-range}
use Rattle.std.proofs.Math.Nat.{mod-lt}
use Rattle.base.proofs.Lists.{length-push}
use Rattle.filter_values.specs.Name.{IsName, is_name, is_letter, is_other_name_byte, are_name_bytes}
use Rattle.filter_values.proofs.NameTests.{tested_name}
use Rattle.filter_constraints.proofs.BytesLemmas.{bytes_eq-tells}
use Rattle.filter_text.specs.MessageText.{Each}
use Rattle.filter_text.specs.declared.semantics.Semantics.TheVariants.{Subscription}
use Rattle.document_reader.specs.Drawn.{Drawn, is_apart}
use Rattle.document_reader.specs.Drafts.{name_of, scriptless}
use Rattle.document_reader.specs.Tally.{no_counts}
use Rattle.document_reader.specs.declared.draft.Draft.{Draft}
use Rattle.document_reader.specs.declared.state.State.{State}
use Rattle.document_reader.specs.declared.state.Place.{Place}
use Rattle.document_reader.specs.declared.state.Place.TheVariants as at
use Rattle.document_reader.specs.declared.version.Version.TheVariants.{One}
use Rattle.document_reader.proofs.Members.{each_by, each_more}
use Rattle.document_format.proofs.LineLaws.{are_shown, ended}
use Rattle.document_format.proofs.Shown.{shown-then}
use Rattle.document_format.proofs.ReadLaws.{number_shown}
use Rattle.document_format.proofs.ClientStands.{IsAbsent, absent_place}
use Rattle.document_format.proofs.Stands.{state, client_stands}
use Rattle.document_format.proofs.TreeStands.{server_test}
use Rattle.document_generate.specs.Lines.{texts_drawn, client_line}
use Rattle.document_generated.proofs.Leading.{Leads, leads-none, leads-line, leads-on, leads-same, number-short, append-short}

-- the name of the client at a place, and its server
abbrev pub name-at : ℕ → List ℕ
name-at place = 99 ∷ decimal (place + 1)

abbrev pub home-at : ℕ → ℕ
home-at place = place % 16 + 1

-- Names.

digit-bytes : (ds : List ℕ) → AllDigits 10 ds → are_name_bytes ds ≡ true
digit-bytes [] h = refl
digit-bytes (d ∷ ds) h = rw (here d h.0, digit-bytes ds h.1) refl
  where
    here : (d : ℕ) → digit_value d < 10 → (is_letter d || is_other_name_byte d) ≡ true
    here d h = let r = digit-range d h in let lo : 48 ≤ d = r.0 in let hi : d ≤ 57 = r.1 in grind (arith, nat_tests)

-- a letter and a number
pub numbered-name : (b n : ℕ) → is_letter b ≡ true → n < 100 → IsName (b ∷ decimal n)
unfolding is_name
numbered-name b n e l =
    let d = digit-bytes (decimal n) (decimal_is_IsNumeral n (omega (arith, l))).0.1 in
    let k : length (decimal n) ≤ 2 = number-short n l in
    let s : nat_lt (length (decimal n)) 64 ≡ true = grind (arith, common_steps) in
    tested_name (b ∷ decimal n) (rw (e, d, s) refl)

-- names with other numbers differ
pub names-differ : (b m n : ℕ) → m < 100 → n < 100 → (m ≡ n → ⊥) → bytes_eq (b ∷ decimal m) (b ∷ decimal n) ≡ false
names-differ b m n l k differ = false_from_ne_true (bytes_eq (b ∷ decimal m) (b ∷ decimal n)) (λ e.
    let same : b ∷ decimal m ≡ b ∷ decimal n = bytes_eq-tells (b ∷ decimal m) (b ∷ decimal n) e in
    differ (decimal_injective m n (omega (arith, l)) (omega (arith, k)) (ap tail same)))
  where
    tail : List ℕ → List ℕ
    tail [] = []
    tail (x ∷ xs) = xs

-- each of the clients has the name of an earlier place
abbrev pub AreBefore : ℕ → List Draft → Type 0
AreBefore place drafts = Each (λ d. (j : ℕ) × (j < place) × (name_of d ≡ name-at j)) drafts

pub absent : (place : ℕ) (drafts : List Draft) → place < 64 → AreBefore place drafts → IsAbsent (name-at place) drafts
absent place drafts l before = each_by (λ d. (j : ℕ) × (j < place) × (name_of d ≡ name-at j)) (λ d. bytes_eq (name-at place) (name_of d) ≡ false)
    (λ d h. let k = h.1 in rw h.2 (names-differ 99 (place + 1) (h.0 + 1) (omega (arith, l)) (omega (arith, l, k)) (λ e. omega (arith, e, k)))) drafts before

pub before-more : (place : ℕ) (drafts : List Draft) (d : Draft) → AreBefore place drafts → name_of d ≡ name-at place → AreBefore (place + 1) (drafts ++ d ∷ [])
before-more place drafts d before e = each_more (λ d. (j : ℕ) × (j < place + 1) × (name_of d ≡ name-at j)) drafts d
    (each_by (λ d. (j : ℕ) × (j < place) × (name_of d ≡ name-at j)) (λ d. (j : ℕ) × (j < place + 1) × (name_of d ≡ name-at j)) (λ d h. (h.0, (let k = h.1 in omega (arith, k)), h.2)) drafts before)
    (place, omega arith, e)

-- Lines.

-- so many clients without scripts, from a place on
abbrev pub fresh : ℕ → ℕ → List Draft
fresh zero place = []
fresh (suc n) place = scriptless (name-at place) (home-at place) ∷ fresh n (place + 1)

abbrev line-at : ℕ → List ℕ
line-at place = codes "client " ++ name-at place ++ 32 ∷ decimal (home-at place)

line-same : (place s : ℕ) → ended (line-at place) ≡ client_line place s
unfolding client_line
line-same place s = simp append_assoc

line-shown : (place : ℕ) → place < 64 → are_shown (line-at place) ≡ true
line-shown place l =
    let m : place % 16 < 16 = mod-lt place (omega arith) in
    shown-then (codes "client " ++ name-at place) (decimal (home-at place)) (number_shown (place + 1) (omega (arith, l))) (number_shown (home-at place) (omega (arith, m)))

line-short : (place : ℕ) → place < 64 → length (line-at place) < 14
line-short place l =
    let m : place % 16 < 16 = mod-lt place (omega arith) in
    let h = append-short (decimal (place + 1)) (32 ∷ decimal (home-at place)) 2 3 (number-short (place + 1) (omega (arith, l))) (omega (arith, number-short (home-at place) (omega (arith, m)))) in
    omega (arith, h)

-- what stands among the clients
abbrev pub listing : Place → Drawn → List Draft → State
listing p trees clients = state p One Subscription trees clients 0 no_counts []

-- edges or clients stand before
abbrev pub IsListing : Place → Type 0
IsListing p = (p ≡ at.Edges) ⊎ (p ≡ at.Clients)

one-client : (place s : ℕ) (p : Place) (trees : Drawn) (done : List Draft) → IsListing p → is_apart trees ≡ false → trees.servers ≡ 16 → place < 64 → length done ≡ place → AreBefore place done
    → Leads (listing p trees done) (client_line place s) 14 (listing at.Clients trees (done ++ scriptless (name-at place) (home-at place) ∷ []))
one-client place s p trees done o whole servers l len before =
    let m : place % 16 < 16 = mod-lt place (omega arith) in
    leads-same _ _ _ _ 14 (line-same place s)
    (leads-line _ _ (line-at place) 14 (line-shown place l) (line-short place l)
    (λ n. client_stands n p One Subscription trees done (name-at place) (home-at place) o whole (numbered-name 99 (place + 1) refl (omega (arith, l))) (omega (arith, m))
    (server_test trees.servers (home-at place) (omega arith, omega (arith, m, servers))) (absent_place (name-at place) done (absent place done l before)) (omega (arith, l, len))))

pub clients-lead : (n place s : ℕ) (p : Place) (trees : Drawn) (done : List Draft) → IsListing p → is_apart trees ≡ false → trees.servers ≡ 16 → place + n ≡ 64 → length done ≡ place → AreBefore place done
    → (q : Place) × IsListing q × Leads (listing p trees done) (texts_drawn client_line (λ z. 0) n place s) (14 * n) (listing q trees (done ++ fresh n place))
unfolding texts_drawn
clients-lead zero place s p trees done o whole servers is len before = (p, o, subst (λ z. Leads (listing p trees done) [] 0 (listing p trees z)) (sym (append-nil done)) (leads-none (listing p trees done)))
clients-lead (suc n) place s p trees done o whole servers is len before =
    let d = scriptless (name-at place) (home-at place) in
    let l : place < 64 = omega (arith, is) in
    let more = clients-lead n (place + 1) s at.Clients trees (done ++ d ∷ []) (inr refl) whole servers (omega (arith, is)) (length-push done d ∙ ap (λ z. z + 1) len) (before-more place done d before refl) in
    let e : 14 + 14 * n ≡ 14 * suc n = omega arith in
    let f : (done ++ d ∷ []) ++ fresh n (place + 1) ≡ done ++ d ∷ fresh n (place + 1) = append_assoc done (d ∷ []) (fresh n (place + 1)) in (
      more.0,
      more.1,
      subst (λ z. Leads (listing p trees done) (texts_drawn client_line (λ z. 0) (suc n) place s) z (listing more.0 trees (done ++ fresh (suc n) place))) e
          (leads-on _ _ _ _ _ 14 (14 * n) (one-client place s p trees done o whole servers l len before)
          (subst (λ z. Leads (listing at.Clients trees (done ++ d ∷ [])) (texts_drawn client_line (λ z. 0) n (place + 1) s) (14 * n) (listing more.0 trees z)) f more.2)),
    )
