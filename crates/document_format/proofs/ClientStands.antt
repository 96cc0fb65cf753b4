-- What stands after the canonical lines of the clients and of their scripts.
use Rattle.std.proofs.Common.{◌≡◌, ◌⊎◌, inr, ℕ, suc, ◌+◌, ◌<◌, ◌≤◌, true, false, not, List, [], ◌∷◌, ◌++◌, length, map, refl, sym, ap, subst, ◌∙◌, arith, Some, None, Ok, append_assoc, append-nil}
use Rattle.std.specs.Prelude.{nat_lt}
use Rattle.std.specs.List.{prefix_len}
use Rattle.std.specs.Str.{bytes_eq}
use Rattle.std.proofs.lemmas.Grind.{common_steps}
use Rattle.filter_values.specs.Name.{IsName}
use Rattle.filter_text.specs.declared.command.Command.{Command}
use Rattle.filter_text.specs.declared.semantics.Semantics.{Semantics}
use Rattle.document_format.specs.CommandText.{IsCommandIn}
use Rattle.net_model.specs.Parts.{ClientParts}
use Rattle.document_reader.specs.Drawn.{Drawn, is_apart}
use Rattle.document_reader.specs.Drafts.{changed_at, client_at, draft, name_of, scriptless}
use Rattle.document_reader.specs.Tally.{no_counts}
use Rattle.document_reader.specs.Rules.{version_number}
use Rattle.document_reader.specs.Meaning.{stands}
use Rattle.document_reader.specs.declared.draft.Draft.{Draft}
use Rattle.document_reader.specs.declared.version.Version.{Version}
use Rattle.document_reader.specs.declared.state.Place.{Place}
use Rattle.document_reader.specs.declared.state.Place.TheVariants as at
use Rattle.filter_text.specs.MessageText.{Each}
use Rattle.document_format.specs.DocumentText.{client_line, is_idle}
use Rattle.document_format.proofs.TreeStands.{server_test}
use Rattle.document_format.proofs.Stands.{state, stands_next, client_stands}
use Rattle.base.proofs.Lists.{bytes_eq-self}
use Rattle.std.proofs.lemmas.List.{length-append}

-- A member in the middle.

pub changed-middle : (done rest : List Draft) (d : Draft) (f : Draft → Draft) → changed_at (length done) f (done ++ d ∷ rest) ≡ done ++ f d ∷ rest
changed-middle [] rest d f = refl
changed-middle (x ∷ done) rest d f = ap (λ (z : List Draft). x ∷ z) (changed-middle done rest d f)

-- Names.

-- no draft has the name
abbrev pub IsAbsent : List ℕ → List Draft → Type 0
IsAbsent name drafts = Each (λ d. bytes_eq name (name_of d) ≡ false) drafts

prefix_whole : (name : List ℕ) (drafts : List Draft) → IsAbsent name drafts → prefix_len (λ x. not (bytes_eq name x)) (map name_of drafts) ≡ length (map name_of drafts)
prefix_whole name [] h = refl
prefix_whole name (d ∷ drafts) h = rw h.0 (omega (arith, prefix_whole name drafts h.1))

pub absent_place : (name : List ℕ) (drafts : List Draft) → IsAbsent name drafts → client_at drafts name ≡ None
unfolding client_at
absent_place name drafts h =
    let e = prefix_whole name drafts h in
    let l : nat_lt (prefix_len (λ x. not (bytes_eq name x)) (map name_of drafts)) (length (map name_of drafts)) ≡ false = rw e (not_less (length (map name_of drafts))) in
    rw l refl
  where
    not_less : (n : ℕ) → nat_lt n n ≡ false
    not_less n = grind (arith, common_steps)

prefix_here : (name : List ℕ) (done rest : List Draft) (d : Draft) → IsAbsent name done → name_of d ≡ name → prefix_len (λ x. not (bytes_eq name x)) (map name_of (done ++ d ∷ rest)) ≡ length done
prefix_here name [] rest d h e = let t : bytes_eq name (name_of d) ≡ true = rw e (bytes_eq-self name) in rw t refl
prefix_here name (x ∷ done) rest d h e = rw h.0 (omega (arith, prefix_here name done rest d h.1 e))

mapped-length : (drafts : List Draft) → length (map name_of drafts) ≡ length drafts
mapped-length [] = refl
mapped-length (d ∷ drafts) = ap suc (mapped-length drafts)

pub place_here : (name : List ℕ) (done rest : List Draft) (d : Draft) → IsAbsent name done → name_of d ≡ name → client_at (done ++ d ∷ rest) name ≡ Some (length done)
unfolding client_at
place_here name done rest d h e =
    let p = prefix_here name done rest d h e in
    let m = mapped-length (done ++ d ∷ rest) in
    let a = length-append done (d ∷ rest) in
    let l : nat_lt (prefix_len (λ x. not (bytes_eq name x)) (map name_of (done ++ d ∷ rest))) (length (map name_of (done ++ d ∷ rest))) ≡ true = less (prefix_len (λ x. not (bytes_eq name x)) (map name_of (done ++ d ∷ rest))) (length (map name_of (done ++ d ∷ rest))) (omega (arith, p, m, a)) in
    rw (l, p) refl
  where
    less : (x y : ℕ) → x < y → nat_lt x y ≡ true
    less x y l = grind (arith, common_steps)

-- names that differ from each other
abbrev pub AreApart : List ClientParts → Type 0
AreApart [] = Unit {0}
AreApart (c ∷ cs) = Each (λ o. bytes_eq o.name c.name ≡ false) cs × AreApart cs

-- A client's draft, before its script and behind it.

abbrev pub unwritten : ClientParts → Draft
unwritten c = scriptless c.name c.home

abbrev pub written : ClientParts → Draft
written c = draft c (not (is_idle c))

-- the clients' drafts, of which these have been written and those not
abbrev pub drafts : List ClientParts → List ClientParts → List Draft
drafts done rest = map written done ++ map unwritten rest

absent_unwritten : (name : List ℕ) (cs : List ClientParts) → Each (λ o. bytes_eq name o.name ≡ false) cs → IsAbsent name (map unwritten cs)
absent_unwritten name [] h = tt
absent_unwritten name (c ∷ cs) h = (h.0, absent_unwritten name cs h.1)

-- the names before one differ from it
pub names_before : (done rest : List ClientParts) (c : ClientParts) → AreApart (done ++ c ∷ rest) → Each (λ o. bytes_eq c.name o.name ≡ false) done
names_before [] rest c h = tt
names_before (d ∷ done) rest c h = (here done h.0, names_before done rest c h.1)
  where
    here : (cs : List ClientParts) → Each (λ o. bytes_eq o.name d.name ≡ false) (cs ++ c ∷ rest) → bytes_eq c.name d.name ≡ false
    here [] k = k.0
    here (x ∷ cs) k = here cs k.1

-- Clients.

-- phases from this one on that never fall, up to so many barriers
abbrev pub Rises : ℕ → List (ℕ × Command) → ℕ → Type 0
Rises phase [] barriers = phase ≤ barriers
Rises phase (step ∷ steps) barriers = (phase ≤ step.0) × Rises step.0 steps barriers

-- what each client is
pub record IsWritableClient (version count : ℕ) (c : ClientParts) : Type 0 where
  pub name : IsName c.name
  pub home : (1 ≤ c.home) × (c.home ≤ count)
  pub barriers : c.barriers ≤ 4095
  pub rises : Rises 0 c.script c.barriers
  pub commands : Each (λ s. IsCommandIn version s.1) c.script

map-append : (cs : List ClientParts) (c : ClientParts) → map unwritten (cs ++ c ∷ []) ≡ map unwritten cs ++ unwritten c ∷ []
map-append [] c = refl
map-append (d ∷ cs) c = ap (λ (z : List Draft). unwritten d ∷ z) (map-append cs c)

map-length : (cs : List ClientParts) → length (map unwritten cs) ≡ length cs
map-length [] = refl
map-length (c ∷ cs) = ap suc (map-length cs)

pub clients_stand : (n : ℕ) (p : Place) (v : Version) (sem : Semantics) (trees : Drawn) (done rest : List ClientParts) → (p ≡ at.Edges) ⊎ (p ≡ at.Clients) → is_apart trees ≡ false → trees.servers ≤ 64
    → Each (IsWritableClient (version_number v) trees.servers) rest → AreApart (done ++ rest) → length (done ++ rest) ≤ 1024
    → (q : Place) × ((q ≡ at.Edges) ⊎ (q ≡ at.Clients)) × (stands n (state p v sem trees (map unwritten done) 0 no_counts []) (map client_line rest) ≡ Ok (state q v sem trees (map unwritten (done ++ rest)) 0 no_counts []))
clients_stand n p v sem trees done [] o whole small each apart few = (p, o, ap (λ (z : List ClientParts). Ok (state p v sem trees (map unwritten z) 0 no_counts [])) (sym (append-nil done)))
clients_stand n p v sem trees done (c ∷ rest) o whole small each apart few =
    let l : length (map unwritten done) < 1024 = omega (arith, length-append done (c ∷ rest), map-length done, few) in
    let here = client_stands n p v sem trees (map unwritten done) c.name c.home o whole each.0.name (omega (arith, each.0.home.1, small)) (server_test trees.servers c.home each.0.home)
    (absent_place c.name (map unwritten done) (absent_unwritten c.name done (names_before done rest c apart))) l in
    let same : (done ++ c ∷ []) ++ rest ≡ done ++ c ∷ rest = append_assoc done (c ∷ []) rest in
    let more = clients_stand (n + 1) at.Clients v sem trees (done ++ c ∷ []) rest (inr refl) whole small each.1 (subst AreApart (sym same) apart) (subst (λ (z : List ClientParts). length z ≤ 1024) (sym same) few) in (
      more.0,
      more.1,
      stands_next n _ _ _ (client_line c) (map client_line rest) here
          (subst (λ (z : List Draft). stands (n + 1) (state at.Clients v sem trees z 0 no_counts []) (map client_line rest) ≡ Ok (state more.0 v sem trees (map unwritten (done ++ c ∷ rest)) 0 no_counts [])) (map-append done c)
          (more.2 ∙ ap (λ (z : List ClientParts). Ok (state more.0 v sem trees (map unwritten z) 0 no_counts [])) same)),
    )
