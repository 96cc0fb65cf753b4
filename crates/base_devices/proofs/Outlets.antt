-- Bytes that go on their way one after the other.
use Rattle.std.proofs.Common.{◌≡◌, inl, inr, ◌<◌, ℕ, true, false, List, [], ◌++◌, length, length-append, arith, refl, sym, ap, subst, ◌∙◌, append_assoc, append-nil}
use Rattle.std.proofs.KnownBytes.{Appends-nil, Appends-trans}
use Rattle.base_devices.proofs.Pieces.{joined}
use Rattle.base_devices.specs.Cause.{Rose}
use Rattle.std.specs.Io.KnownBytes.{Appends}
use Rattle.base_devices.specs.Sinks.{SinkParts, Took, Grew}
use Rattle.base_devices.specs.Whole.{TookPart}
use Rattle.base_devices.specs.Pending.{PendingParts, Outlet, Went, outlet, drained}

splits : (w x y front next middle rest : List ℕ) → w ++ x ≡ front ++ middle → middle ++ y ≡ next ++ rest → w ++ (x ++ y) ≡ (front ++ next) ++ rest
splits w x y front next middle rest p q =
    sym (append_assoc w x y) ∙ ap (λ l. l ++ y) p ∙ append_assoc front middle y ∙ ap (λ l. front ++ l) q ∙ sym (append_assoc front next rest)

longer : (xs ys : List ℕ) → 0 < length xs → 0 < length (xs ++ ys)
longer xs ys s = omega (arith, s, length-append xs ys)

-- nothing was taken
took-none : (a : SinkParts) → Took a a []
took-none a = record { taken = sym (append-nil a.taken); held = Appends-nil a.contents }

-- what was taken, and then more
pub took-then : (a b c : SinkParts) (x y : List ℕ) → Took a b x → Took b c y → Took a c (x ++ y)
took-then a b c x y p q = record {
  taken = joined a.taken b.taken c.taken x y p.taken q.taken;
  held = Appends-trans a.contents b.contents c.contents x y p.held q.held;
}

-- what went, and then more
pub went-then : (a b c : Outlet) (x y : List ℕ) → Went a b x → Went b c y → Went a c (x ++ y)
went-then a b c x y p q = record {
  sound = λ s. elim (p.sound s) [
    | inl u ↦ elim (q.sound u.sound) [
      | inl v ↦ inl (record {
        front = u.front ++ v.front;
        took = took-then a.sink b.sink c.sink u.front v.front u.took v.took;
        split = splits a.waiting.bytes x y u.front v.front b.waiting.bytes c.waiting.bytes u.split v.split;
        sure = v.sure ∙ u.sure;
        sound = v.sound;
      })
      | inr v ↦ inr (record {
        front = u.front ++ v.front;
        rest = v.rest;
        took = took-then a.sink b.sink c.sink u.front v.front u.took v.took;
        split = splits a.waiting.bytes x y u.front v.front b.waiting.bytes v.rest u.split v.split;
        some = v.some;
        rose = subst (λ n. Rose n c.sink.faults) u.sure v.rose;
        failed = v.failed;
      })
    ]
    | inr u ↦
        let r = q.failed u.failed in
        inr (record {
          front = u.front;
          rest = u.rest ++ y;
          took = subst (λ z. Took a.sink z u.front) (sym r.0) u.took;
          split = sym (append_assoc a.waiting.bytes x y) ∙ ap (λ l. l ++ y) u.split ∙ append_assoc u.front u.rest y;
          some = longer u.rest y u.some;
          rose = subst (λ (z : SinkParts). Rose a.sink.faults z.faults) (sym r.0) u.rose;
          failed = r.1;
        })
  ];
  failed = λ f.
      let r = p.failed f in
      let t = q.failed r.1 in
      (t.0 ∙ r.0, t.1);
}

-- a text in two parts, of which nothing waits at the end
pub went-finished : (a b c d : Outlet) (front rest : List ℕ) → Went a b front → Went b c rest → Went c d [] → Went a d (front ++ rest)
went-finished a b c d front rest p q r = subst (Went a d) (append-nil (front ++ rest)) (went-then a c d (front ++ rest) [] (went-then a b c front rest p q) r)

-- bytes that wait
pub went-kept : (sink : SinkParts) (p : PendingParts) (x : List ℕ) → Went (outlet sink p) (outlet sink (record p { bytes = p.bytes ++ x })) x
went-kept sink p x = record {
  sound = λ s. inl (record { front = []; took = took-none sink; split = refl; sure = refl; sound = s });
  failed = λ f. (refl, f);
}

-- nothing goes
pub went-nothing : (a : Outlet) → Went a a []
went-nothing a = record {
  sound = λ s. inl (record { front = []; took = took-none a.sink; split = append-nil a.waiting.bytes; sure = refl; sound = s });
  failed = λ f. (refl, f);
}

-- where it has failed, a front was
pub cut-short : (old new : SinkParts) (x : List ℕ) → Went (outlet old (drained false)) (outlet new (drained true)) x → TookPart old.taken new.taken x × Rose old.faults new.faults
cut-short old new x w = elim (w.sound refl) [
  | inl u ↦ (let e = u.sound in absurd cc)
  | inr u ↦ ((u.front, u.rest, u.split, u.some, u.took.taken), u.rose)
]

-- whatever went, the sink holds it behind what it held
pub went-grew : (old new : SinkParts) (waiting : PendingParts) (x : List ℕ) → Went (outlet old (drained false)) (outlet new waiting) x → Grew old new
went-grew old new waiting x w = elim (w.sound refl) [
  | inl u ↦ (u.front, u.took)
  | inr u ↦ (u.front, u.took)
]

-- nothing went
pub grew-none : (a : SinkParts) → Grew a a
grew-none a = ([], took-none a)

-- where nothing was taken before, what was taken is behind what it held
pub grew-by : (old new : SinkParts) → old.taken ≡ [] → Grew old new → Appends old.contents new.contents new.taken
grew-by old new e g = subst (Appends old.contents new.contents) (sym (g.1.taken ∙ ap (λ l. l ++ g.0) e)) g.1.held
