-- The accepted publications and the refused ordinals of a script are those of the runs.
use Rattle.std.proofs.Common.{◌≡◌, ℕ, zero, suc, ◌+◌, ◌<◌, ◌≤◌, Bool, true, false, cond, not, ◌||◌, ◌⊎◌, inl, inr, List, [], ◌∷◌, take, slice_get, Some, refl, sym, ap, subst, ◌∙◌, arith}
use Rattle.std.proofs.lemmas.Bool.Decides.{nat_tests}
use Rattle.std.proofs.lemmas.Option.{same_Some}
use Rattle.base.specs.Sets.{Has, IsRising}
use Rattle.filter_types.specs.Notice.{Attribute}
use Rattle.law_routing.specs.Net.{Net, PhasedCommand, Publish}
use Rattle.law_routing.specs.Clients.{is_publish, ordinal, adverts_step, adverts_after, some_pass, accepts, add_refused, refused_from}
use Rattle.net_model.specs.Real.{real}
use Rattle.filter_text.specs.declared.semantics.Semantics.{Semantics}
use Rattle.filter_text.specs.declared.command.Command.{Command as WireCommand}
use Rattle.filter_text.specs.declared.command.Command.TheVariants as commands
use Rattle.filter_text.specs.declared.id.Id.{Id}
use Rattle.net_model.specs.Meaning.{command_of}
use Rattle.net_model.specs.Nets.{with_adverts}
use Rattle.output_flood.specs.declared.publication.Publication.{Publication}
use Rattle.filter_text.specs.Messages.{Lists}
use Rattle.output_flood.specs.Flooding.{id_before}
use Rattle.output_flood.specs.Held.{Script, advert_step}
use Rattle.output_flood.specs.Publications.{is_free, publication_of, add_accepted, add_refusal, ordinal_step, accepted_from, refusals_from}
use Rattle.output_flood.proofs.Moments.{Same, ps}
use Rattle.output_flood.proofs.Passing.{same_pass}
use Rattle.output_flood.proofs.OwnAdverts.{step_same}

-- a publish in its phase
abbrev pub publish_at : ℕ → List Attribute → PhasedCommand real
publish_at phase notice = record { phase = phase; command = Publish notice }

-- an accepted publish among steps of a client's script, with these advertisements and so many publishes before them
pub record Accepted (semantics : Semantics) (q : ℕ) (script : Script) (adverts : Lists) (before : ℕ) (steps : Script) (p : Publication) : Type 0 where
  pub index : ℕ
  pub phase : ℕ
  pub notice : List Attribute
  pub at : slice_get (ps steps) index ≡ Some (publish_at phase notice)
  pub counted : before + ordinal real (take (suc index) (ps steps)) ≡ p.id.ordinal
  pub free : is_free semantics (adverts_after real adverts (take index (ps steps))) notice ≡ true
  pub is : p ≡ publication_of semantics q script p.id.ordinal phase notice

same_free : (semantics : Semantics) (xs ys : Lists) (n : List Attribute) → Same xs ys → is_free semantics xs n ≡ is_free semantics ys n
same_free semantics xs ys n same = ap (λ b. not (with_adverts semantics) || b) (same_pass (λ a. real.allows a n) xs ys same)

count_step : (o : ℕ) (c : WireCommand) (m : ℕ) → ordinal_step o c + m ≡ o + cond (is_publish real (command_of c)) (suc m) m
count_step o (commands.Subscribe f) m = refl
count_step o (commands.Unsubscribe f) m = refl
count_step o (commands.Advertise a) m = refl
count_step o (commands.Unadvertise a) m = refl
count_step o (commands.Publish n) m = omega arith

ordinal_next : (o : ℕ) (c : WireCommand) → ordinal_step o c ≡ cond (is_publish real (command_of c)) (suc o) o
ordinal_next o (commands.Subscribe f) = refl
ordinal_next o (commands.Unsubscribe f) = refl
ordinal_next o (commands.Advertise a) = refl
ordinal_next o (commands.Unadvertise a) = refl
ordinal_next o (commands.Publish n) = omega arith

-- what one step puts in front
pub record Here (semantics : Semantics) (q : ℕ) (script : Script) (xs : Lists) (o phase : ℕ) (c : WireCommand) (p : Publication) : Type 0 where
  pub notice : List Attribute
  pub publishes : c ≡ commands.Publish notice
  pub free : is_free semantics xs notice ≡ true
  pub is : p ≡ publication_of semantics q script (o + 1) phase notice

split : (semantics : Semantics) (q : ℕ) (script : Script) (xs : Lists) (o phase : ℕ) (c : WireCommand) (rest : List Publication) (p : Publication)
    → Has p (add_accepted semantics q script xs o phase c rest) → Has p rest ⊎ Here semantics q script xs o phase c p
split semantics q script xs o phase (commands.Subscribe f) rest p h = inl h
split semantics q script xs o phase (commands.Unsubscribe f) rest p h = inl h
split semantics q script xs o phase (commands.Advertise a) rest p h = inl h
split semantics q script xs o phase (commands.Unadvertise a) rest p h = inl h
split semantics q script xs o phase (commands.Publish n) rest p h = go (is_free semantics xs n) refl h
  where
    go : (b : Bool) → is_free semantics xs n ≡ b → Has p (cond b (publication_of semantics q script (o + 1) phase n ∷ rest) rest)
        → Has p rest ⊎ Here semantics q script xs o phase (commands.Publish n) p
    go true e (inl i) = inr (record { notice = n; publishes = refl; free = e; is = i })
    go true e (inr r) = inl r
    go false e r = inl r

keeps : (semantics : Semantics) (q : ℕ) (script : Script) (xs : Lists) (o phase : ℕ) (c : WireCommand) (rest : List Publication) (p : Publication)
    → Has p rest → Has p (add_accepted semantics q script xs o phase c rest)
keeps semantics q script xs o phase (commands.Subscribe f) rest p h = h
keeps semantics q script xs o phase (commands.Unsubscribe f) rest p h = h
keeps semantics q script xs o phase (commands.Advertise a) rest p h = h
keeps semantics q script xs o phase (commands.Unadvertise a) rest p h = h
keeps semantics q script xs o phase (commands.Publish n) rest p h = go (is_free semantics xs n)
  where
    go : (b : Bool) → Has p (cond b (publication_of semantics q script (o + 1) phase n ∷ rest) rest)
    go true = inr h
    go false = h

one_counted : (c : WireCommand) (n : List Attribute) (o : ℕ) → c ≡ commands.Publish n → o + cond (is_publish real (command_of c)) 1 0 ≡ o + 1
one_counted c n o e = ap (λ z. o + cond (is_publish real (command_of z)) 1 0) e

abbrev command_at : ℕ → WireCommand → PhasedCommand real
command_at phase c = record { phase = phase; command = command_of c }

phased_at : (phase : ℕ) (c : WireCommand) (n : List Attribute) → c ≡ commands.Publish n → command_at phase c ≡ publish_at phase n
phased_at phase c n e = ap (command_at phase) e

pub accepted_to : (semantics : Semantics) (q : ℕ) (script steps : Script) (xs ys : Lists) → Same xs ys → (o : ℕ) (p : Publication)
    → Has p (accepted_from semantics q script xs o steps) → Accepted semantics q script ys o steps p
accepted_to semantics q script [] xs ys same o p h = absurd h
accepted_to semantics q script (s ∷ steps) xs ys same o p h =
    go (accepted_to semantics q script steps (advert_step xs s.1) (adverts_step real ys (command_of s.1)) (step_same s.1 xs ys same) (ordinal_step o s.1) p)
    (split semantics q script xs o s.0 s.1 (accepted_from semantics q script (advert_step xs s.1) (ordinal_step o s.1) steps) p h)
  where
    shift : Accepted semantics q script (adverts_step real ys (command_of s.1)) (ordinal_step o s.1) steps p → Accepted semantics q script ys o (s ∷ steps) p
    shift a = record {
      index = suc a.index;
      phase = a.phase;
      notice = a.notice;
      at = a.at;
      counted = sym (count_step o s.1 (ordinal real (take (suc a.index) (ps steps)))) ∙ a.counted;
      free = a.free;
      is = a.is;
    }

    here : Here semantics q script xs o s.0 s.1 p → Accepted semantics q script ys o (s ∷ steps) p
    here x =
        let e : p.id.ordinal ≡ o + 1 = ap (λ (z : Publication). z.id.ordinal) x.is in record {
          index = 0;
          phase = s.0;
          notice = x.notice;
          at = ap Some (phased_at s.0 s.1 x.notice x.publishes);
          counted = one_counted s.1 x.notice o x.publishes ∙ sym e;
          free = sym (same_free semantics xs ys x.notice same) ∙ x.free;
          is = x.is ∙ ap (λ z. publication_of semantics q script z s.0 x.notice) (sym e);
        }

    go : (Has p (accepted_from semantics q script (advert_step xs s.1) (ordinal_step o s.1) steps)
        → Accepted semantics q script (adverts_step real ys (command_of s.1)) (ordinal_step o s.1) steps p)
        → Has p (accepted_from semantics q script (advert_step xs s.1) (ordinal_step o s.1) steps) ⊎ Here semantics q script xs o s.0 s.1 p
        → Accepted semantics q script ys o (s ∷ steps) p
    go ih (inl r) = shift (ih r)
    go ih (inr x) = here x

pub publish_back : (c : WireCommand) (n : List Attribute) → command_of c ≡ Publish n → c ≡ commands.Publish n
publish_back (commands.Subscribe f) n e = absurd cc
publish_back (commands.Unsubscribe f) n e = absurd cc
publish_back (commands.Advertise a) n e = absurd cc
publish_back (commands.Unadvertise a) n e = absurd cc
publish_back (commands.Publish m) n e = ap commands.Publish (same m n e)
  where
    same : (m n : List Attribute) → command_of (commands.Publish m) ≡ Publish n → m ≡ n
    same m n e = cc

pub accepted_has : (semantics : Semantics) (q : ℕ) (script steps : Script) (xs ys : Lists) → Same xs ys → (o i phase : ℕ) (n : List Attribute) (r : ℕ)
    → slice_get (ps steps) i ≡ Some (publish_at phase n) → o + ordinal real (take (suc i) (ps steps)) ≡ r
    → is_free semantics (adverts_after real ys (take i (ps steps))) n ≡ true
    → Has (publication_of semantics q script r phase n) (accepted_from semantics q script xs o steps)
accepted_has semantics q script [] xs ys same o i phase n r at counted free = absurd cc
accepted_has semantics q script (s ∷ steps) xs ys same o zero phase n r at counted free =
    subst (λ z. Has (publication_of semantics q script r phase n) (add_accepted semantics q script xs o s.0 z rest)) (sym is)
    (head (is_free semantics xs n) (same_free semantics xs ys n same ∙ free))
  where
    rest : List Publication
    rest = accepted_from semantics q script (advert_step xs s.1) (ordinal_step o s.1) steps

    is : s.1 ≡ commands.Publish n
    is = publish_back s.1 n (ap (λ (z : PhasedCommand real). z.command) (same_Some _ _ at))

    one : s.0 ≡ phase
    one = ap (λ (z : PhasedCommand real). z.phase) (same_Some _ _ at)

    two : o + 1 ≡ r
    two = sym (one_counted s.1 n o is) ∙ counted

    head : (b : Bool) → b ≡ true → Has (publication_of semantics q script r phase n) (cond b (publication_of semantics q script (o + 1) s.0 n ∷ rest) rest)
    head true e = inl (ap (λ z. publication_of semantics q script z phase n) (sym two) ∙ ap (λ z. publication_of semantics q script (o + 1) z n) (sym one))
    head false e = absurd cc
accepted_has semantics q script (s ∷ steps) xs ys same o (suc i) phase n r at counted free =
    keeps semantics q script xs o s.0 s.1 (accepted_from semantics q script (advert_step xs s.1) (ordinal_step o s.1) steps) (publication_of semantics q script r phase n)
    (accepted_has semantics q script steps (advert_step xs s.1) (adverts_step real ys (command_of s.1)) (step_same s.1 xs ys same) (ordinal_step o s.1) i phase n r at
    (count_step o s.1 (ordinal real (take (suc i) (ps steps))) ∙ counted) free)

-- ordinals rise
step_up : (o : ℕ) (c : WireCommand) → o ≤ ordinal_step o c
step_up o (commands.Subscribe f) = omega arith
step_up o (commands.Unsubscribe f) = omega arith
step_up o (commands.Advertise a) = omega arith
step_up o (commands.Unadvertise a) = omega arith
step_up o (commands.Publish n) = omega arith

pub accepted_above : (semantics : Semantics) (q : ℕ) (script steps : Script) (xs : Lists) (o : ℕ) (p : Publication)
    → Has p (accepted_from semantics q script xs o steps) → (o < p.id.ordinal) × (p.id.publisher ≡ q)
accepted_above semantics q script [] xs o p h = absurd h
accepted_above semantics q script (s ∷ steps) xs o p h =
    go (accepted_above semantics q script steps (advert_step xs s.1) (ordinal_step o s.1) p)
    (split semantics q script xs o s.0 s.1 (accepted_from semantics q script (advert_step xs s.1) (ordinal_step o s.1) steps) p h)
  where
    go : (Has p (accepted_from semantics q script (advert_step xs s.1) (ordinal_step o s.1) steps) → (ordinal_step o s.1 < p.id.ordinal) × (p.id.publisher ≡ q))
        → Has p (accepted_from semantics q script (advert_step xs s.1) (ordinal_step o s.1) steps) ⊎ Here semantics q script xs o s.0 s.1 p
        → (o < p.id.ordinal) × (p.id.publisher ≡ q)
    go ih (inl r) = let w = ih r in (omega (arith, w.0, step_up o s.1), w.1)
    go ih (inr x) = (omega (arith, ap (λ (z : Publication). z.id.ordinal) x.is), ap (λ (z : Publication). z.id.publisher) x.is)

abbrev pub p_before : Publication → Publication → Bool
p_before p r = id_before p.id r.id

next_after : (q o : ℕ) (a : Id) → o < a.ordinal → a.publisher ≡ q → id_before (record { publisher = q; ordinal = o }) a ≡ true
next_after q o a l e = grind (arith, nat_tests, l, e)

add_rising : (semantics : Semantics) (q : ℕ) (script : Script) (xs : Lists) (o phase : ℕ) (c : WireCommand) (rest : List Publication)
    → IsRising p_before rest → ((p : Publication) → Has p rest → (ordinal_step o c < p.id.ordinal) × (p.id.publisher ≡ q))
    → IsRising p_before (add_accepted semantics q script xs o phase c rest)
add_rising semantics q script xs o phase (commands.Subscribe f) rest r above = r
add_rising semantics q script xs o phase (commands.Unsubscribe f) rest r above = r
add_rising semantics q script xs o phase (commands.Advertise a) rest r above = r
add_rising semantics q script xs o phase (commands.Unadvertise a) rest r above = r
add_rising semantics q script xs o phase (commands.Publish n) rest r above = go (is_free semantics xs n)
  where
    go : (b : Bool) → IsRising p_before (cond b (publication_of semantics q script (o + 1) phase n ∷ rest) rest)
    go true = ((λ p h. next_after q (o + 1) p.id (above p h).0 (above p h).1), r)
    go false = r

pub accepted_rising : (semantics : Semantics) (q : ℕ) (script steps : Script) (xs : Lists) (o : ℕ) → IsRising p_before (accepted_from semantics q script xs o steps)
accepted_rising semantics q script [] xs o = tt
accepted_rising semantics q script (s ∷ steps) xs o =
    add_rising semantics q script xs o s.0 s.1 (accepted_from semantics q script (advert_step xs s.1) (ordinal_step o s.1) steps)
    (accepted_rising semantics q script steps (advert_step xs s.1) (ordinal_step o s.1))
    (accepted_above semantics q script steps (advert_step xs s.1) (ordinal_step o s.1))

-- refused ordinals
add_same : (semantics : Semantics) (net : Net real) → net.adverts ≡ with_adverts semantics → (xs ys : Lists) → Same xs ys → (o : ℕ) (c : WireCommand) (rest more : List ℕ)
    → rest ≡ more → add_refusal semantics xs o c rest ≡ add_refused real net ys o (command_of c) more
add_same semantics net e xs ys same o (commands.Subscribe f) rest more r = r
add_same semantics net e xs ys same o (commands.Unsubscribe f) rest more r = r
add_same semantics net e xs ys same o (commands.Advertise a) rest more r = r
add_same semantics net e xs ys same o (commands.Unadvertise a) rest more r = r
add_same semantics net e xs ys same o (commands.Publish n) rest more r =
    ap (λ b. cond b rest ((o + 1) ∷ rest)) (same_free semantics xs ys n same ∙ ap (λ b. not b || some_pass (λ a. real.allows a n) ys) (sym e))
    ∙ ap (λ l. cond (accepts real net ys n) l ((o + 1) ∷ l)) r
    ∙ ap (λ z. cond (accepts real net ys n) more (z ∷ more)) (next o)
  where
    next : (o : ℕ) → o + 1 ≡ suc o
    next o = omega arith

pub refusals_same : (semantics : Semantics) (net : Net real) → net.adverts ≡ with_adverts semantics → (steps : Script) (xs ys : Lists) → Same xs ys → (o : ℕ)
    → refusals_from semantics xs o steps ≡ refused_from real net ys o (ps steps)
refusals_same semantics net e [] xs ys same o = refl
refusals_same semantics net e (s ∷ steps) xs ys same o =
    add_same semantics net e xs ys same o s.1 (refusals_from semantics (advert_step xs s.1) (ordinal_step o s.1) steps)
    (refused_from real net (adverts_step real ys (command_of s.1)) (cond (is_publish real (command_of s.1)) (suc o) o) (ps steps))
    (refusals_same semantics net e steps (advert_step xs s.1) (adverts_step real ys (command_of s.1)) (step_same s.1 xs ys same) (ordinal_step o s.1)
    ∙ ap (λ z. refused_from real net (adverts_step real ys (command_of s.1)) z (ps steps)) (ordinal_next o s.1))
