-- Proves that every pattern that is read is sound.
use Rattle.std.proofs.Common.{◌≡◌, ◌⊎◌, inl, inr, ℕ, zero, suc, ◌+◌, ◌≤◌, Bool, true, false, not, List, [], ◌∷◌, ◌++◌, All, length, refl, subst, arith, length-append, Option, Some, None, Result, Ok, Err}
use Rattle.std.specs.Prelude.{codes, nat_lt, if◌then◌else◌, option_map}
use Rattle.std.specs.List.{position}
use Rattle.std.specs.Option.{is_some}
use Rattle.std.specs.Str.{bytes_eq}
use Rattle.std.proofs.lemmas.Grind.{common_steps}
use Rattle.std.proofs.lemmas.List.Quantifiers.{position-Some}
use Rattle.filter_constraints.specs.Constraint.{ConstraintParts}
use Rattle.document_script.specs.Tokens.{first_word, tokens}
use Rattle.net_model.specs.Parts.{ClientParts, NetParts, client_parts}
use Rattle.document_reader.specs.Lines.{words}
use Rattle.document_reader.specs.Places.{is_comment}
use Rattle.document_reader.specs.Answer.{◌>>=◌, need, want}
use Rattle.output_patterns.specs.Parts.{PatternParts, WatchingParts, all_of, client_named, has_label, has_name, has_room, is_short, listed, with_step}
use Rattle.output_patterns.specs.Rules.{Answer, at_token, end_rule, is_token, line_rule, nothing, pattern_rule, read_from, step_rule, then_on, told_at, two_names, words_rule}
use Rattle.output_patterns.specs.Steps.{step_filter}
use Rattle.output_patterns.specs.Watch.{IsSoundPattern, IsWatchOf}
use Rattle.output_patterns.specs.declared.fault.PatternKind.{PatternKind}
use Rattle.output_patterns.specs.declared.fault.PatternKind.TheVariants as is
use Rattle.base.proofs.Bools.{if-cases}

-- Tests that hold.

need_ok : {A : Type 0} (b : Bool) (k : PatternKind) (f : Unit {0} → Result A PatternKind) (x : A) → (need b k >>= f) ≡ Ok x → (b ≡ true) × (f tt ≡ Ok x)
need_ok true k f x e = (refl, e)
need_ok false k f x e = cc

want_ok : {A B : Type 0} (o : Option A) (k : PatternKind) (f : A → Result B PatternKind) (x : B) → (want o k >>= f) ≡ Ok x → (a : A) × (o ≡ Some a) × (f a ≡ Ok x)
want_ok None k f x e = cc
want_ok (Some a) k f x e = (a, refl, e)

then_ok : {A B : Type 0} (r : Result A PatternKind) (f : A → Result B PatternKind) (x : B) → (r >>= f) ≡ Ok x → (a : A) × (r ≡ Ok a) × (f a ≡ Ok x)
then_ok (Err k) f x e = cc
then_ok (Ok a) f x e = (a, refl, e)

the_ok : {A E : Type 0} (x y : A) → (let r : Result A E = Ok x in r) ≡ Ok y → x ≡ y
the_ok x y e = cc

no_ok : {A : Type 0} (k : PatternKind) (x : A) → (let r : Result A PatternKind = Err k in r) ≡ Ok x → ⊥
no_ok k x e = cc

-- What stands.

abbrev Each : (PatternParts → Type 0) → List PatternParts → Type 0
Each P [] = Unit {0}
Each P (x ∷ xs) = P x × Each P xs

each_all : (P : PatternParts → Type 0) (xs : List PatternParts) → Each P xs → All P xs
each_all P [] h k d lt = absurd (omega (arith, lt))
each_all P (x ∷ xs) h zero d lt = h.0
each_all P (x ∷ xs) h (suc k) d lt = each_all P xs h.1 k d (omega (arith, lt))

-- the last pattern is one of a client and has at most 8 steps
abbrev LastStands : ℕ → Option PatternParts → Type 0
LastStands clients None = Unit {0}
LastStands clients (Some p) = (1 ≤ p.client) × (p.client ≤ clients) × (length p.steps ≤ 8)

record Stands (clients : ℕ) (s : WatchingParts) : Type 0 where
  pub before : Each (IsSoundPattern clients) s.before
  pub last : LastStands clients s.last
  pub few : length (all_of s) ≤ 1024

all_both : (P : PatternParts → Type 0) (xs ys : List PatternParts) → Each P xs → Each P ys → Each P (xs ++ ys)
all_both P [] ys h k = k
all_both P (x ∷ xs) ys h k = (h.0, all_both P xs ys h.1 k)

last_sound : (clients : ℕ) (o : Option PatternParts) → LastStands clients o → is_short o ≡ false → Each (IsSoundPattern clients) (listed o)
last_sound clients None h e = tt
last_sound clients (Some p) h e = (record { numbered = h.0; client = h.1; some = long (length p.steps) e; few = h.2 }, tt)
  where
    long : (n : ℕ) → nat_lt n 2 ≡ false → 2 ≤ n
    long n f = grind (arith, common_steps)

all_sound : (clients : ℕ) (s : WatchingParts) → Stands clients s → is_short s.last ≡ false → Each (IsSoundPattern clients) (all_of s)
all_sound clients s h e = all_both (IsSoundPattern clients) s.before (listed s.last) h.before (last_sound clients s.last h.last e)

named_client : (name : List ℕ) (clients : List ClientParts) (n : ℕ) → client_named name clients ≡ Some n → (1 ≤ n) × (n ≤ length clients)
unfolding client_named
named_client name clients n e = go (position (has_name name) clients) refl e
  where
    go : (o : Option ℕ) → position (has_name name) clients ≡ o → option_map (λ place. place + 1) o ≡ Some n → (1 ≤ n) × (n ≤ length clients)
    go None p f = cc
    go (Some i) p f =
        let g : i + 1 ≡ n = cc in
        let t = position-Some (has_name name) clients i (client_parts [] 0 0 []) p in
        (omega (arith, g), omega (arith, g, t.0))

pattern_stands : (clients : List ClientParts) (s t : WatchingParts) (w : List ℕ) (ws : List (List ℕ)) → is_short s.last ≡ false → pattern_rule clients s w ws ≡ Ok t → Stands (length clients) s → Stands (length clients) t
unfolding pattern_rule
pattern_stands clients s t w ws o e h =
    let a = need_ok (bytes_eq w (codes "pattern")) is.Words _ t e in
    let b = want_ok (two_names ws) is.Words _ t a.1 in
    let c = want_ok (client_named b.0.0 clients) is.Name _ t b.2 in
    let d = need_ok (not (has_label c.0 b.0.1 (all_of s))) is.Name _ t c.2 in
    let f = need_ok (nat_lt (length (all_of s)) 1024) is.Count _ t d.1 in
    let n = named_client b.0.0 clients c.0 c.1 in
    subst (Stands (length clients)) (the_ok _ t f.1) (record {
      before = all_sound (length clients) s h o;
      last = (n.0, n.1, omega arith);
      few = room (length (all_of s)) f.0 (length-append (all_of s) _);
    })
  where
    room : (n : ℕ) → nat_lt n 1024 ≡ true → {m : ℕ} → m ≡ n + 1 → m ≤ 1024
    room n l e = grind (arith, common_steps)

stepped : (clients : ℕ) (f : List ConstraintParts) (o : Option PatternParts) → LastStands clients o → has_room o ≡ true → LastStands clients (option_map (with_step f) o)
stepped clients f None h e = tt
stepped clients f (Some p) h e = (h.0, h.1, room (length p.steps) (length (p.steps ++ f ∷ [])) e (length-append p.steps (f ∷ [])))
  where
    room : (n m : ℕ) → nat_lt n 8 ≡ true → m ≡ n + 1 → m ≤ 8
    room n m l e = grind (arith, common_steps)

as_many : (f : List ConstraintParts) (o : Option PatternParts) → length (listed (option_map (with_step f) o)) ≡ length (listed o)
as_many f None = refl
as_many f (Some p) = refl

step_stands : (clients version : ℕ) (s t : WatchingParts) (line : List ℕ) → step_rule version s line ≡ Ok t → Stands clients s → Stands clients t
unfolding step_rule
step_stands clients version s t line e h =
    let a = need_ok (is_some s.last) is.Order _ t e in
    let b = then_ok (step_filter version line) _ t a.1 in
    let c = need_ok (has_room s.last) is.Count _ t b.2 in
    subst (Stands clients) (the_ok _ t c.1) (record {
      before = h.before;
      last = stepped clients b.0 s.last h.last c.0;
      few = omega (arith, h.few, length-append s.before (listed s.last), length-append s.before (listed (option_map (with_step b.0) s.last)), as_many b.0 s.last);
    })

token_stands : (version : ℕ) (clients : List ClientParts) (s t : WatchingParts) (line w : List ℕ) (ws : List (List ℕ)) (token : Option (List ℕ)) → at_token version clients s line w ws token ≡ Ok t
    → Stands (length clients) s → Stands (length clients) t
unfolding at_token
token_stands version clients s t line w ws token e h =
    elim (if-cases (is_token (codes "step") token) _ _ _ e) [
      | inl a ↦ step_stands (length clients) version s t line a.1 h
      | inr a ↦ elim (if-cases (is_short s.last) _ _ _ a.1) [
        | inl b ↦ absurd (no_ok is.Short t b.1)
        | inr b ↦ elim (if-cases (is_token (codes "pattern") token) _ _ _ b.1) [
          | inl c ↦ pattern_stands clients s t w ws b.0 c.1 h
          | inr c ↦ absurd (no_ok is.Order t c.1)
        ]
      ]
    ]

words_stand : (version : ℕ) (clients : List ClientParts) (s t : WatchingParts) (line : List ℕ) (ws : List (List ℕ)) → words_rule version clients s line ws ≡ Ok t → Stands (length clients) s → Stands (length clients) t
words_stand version clients s t line [] e h = subst (Stands (length clients)) (the_ok s t e) h
words_stand version clients s t line (w ∷ ws) e h =
    elim (if-cases (is_comment w) _ _ _ e) [
      | inl a ↦ subst (Stands (length clients)) (the_ok s t a.1) h
      | inr a ↦ token_stands version clients s t line w ws (first_word (tokens line)) a.1 h
    ]

line_stands : (version : ℕ) (clients : List ClientParts) (s t : WatchingParts) (line : List ℕ) → line_rule version clients s line ≡ Ok t → Stands (length clients) s → Stands (length clients) t
unfolding line_rule
line_stands version clients s t line e h = words_stand version clients s t line (words line) e h

-- The whole.

record AreSound (clients : ℕ) (patterns : List PatternParts) : Type 0 where
  pub each : Each (IsSoundPattern clients) patterns
  pub few : length patterns ≤ 1024

end_sound : (clients : ℕ) (s : WatchingParts) (patterns : List PatternParts) → end_rule s ≡ Ok patterns → Stands clients s → AreSound clients patterns
unfolding end_rule
end_sound clients s patterns e h =
    let a = need_ok (not (is_short s.last)) is.Short _ patterns e in
    subst (AreSound clients) (the_ok (all_of s) patterns a.1) (record { each = all_sound clients s h (shut (is_short s.last) a.0); few = h.few })
  where
    shut : (b : Bool) → not b ≡ true → b ≡ false
    shut true f = cc
    shut false f = refl

told_ok : {A : Type 0} (n : ℕ) (r : Result A PatternKind) (x : A) → told_at n r ≡ Ok x → r ≡ Ok x
told_ok n (Ok y) x e = cc
told_ok n (Err k) x e = cc

read_sound : (version : ℕ) (clients : List ClientParts) (n : ℕ) (s : WatchingParts) (ls : List (List ℕ)) (patterns : List PatternParts) → read_from version clients n s ls ≡ Ok patterns
    → Stands (length clients) s → AreSound (length clients) patterns
read_sound version clients n s [] patterns e h = end_sound (length clients) s patterns (told_ok n (end_rule s) patterns e) h
read_sound version clients n s (l ∷ ls) patterns e h = go (line_rule version clients s l) refl e (λ t f k. read_sound version clients (n + 1) t ls patterns f k)
  where
    go : (r : Answer) → line_rule version clients s l ≡ r → then_on (told_at n r) (λ t. read_from version clients (n + 1) t ls) ≡ Ok patterns
        → ((t : WatchingParts) → read_from version clients (n + 1) t ls ≡ Ok patterns → Stands (length clients) t → AreSound (length clients) patterns) → AreSound (length clients) patterns
    go (Ok t) k f more = more t f (line_stands version clients s t l k h)
    go (Err x) k f more = cc

pub watch_sound : (bytes : List ℕ) (net : NetParts) (patterns : List PatternParts) → IsWatchOf bytes net patterns → All (IsSoundPattern (length net.clients)) patterns × (length patterns ≤ 1024)
watch_sound bytes net patterns w =
    let t = read_sound net.version net.clients _ nothing w.later patterns w.read (record { before = tt; last = tt; few = omega arith }) in
    (each_all (IsSoundPattern (length net.clients)) patterns t.each, t.few)
