-- What a contract sees of the two ends of a lane.
use Rattle.std.specs.Prelude.{◌≡◌, ℕ, ◌+◌, ◌-◌, ◌++◌, ◌∷◌, [], List, take, length, Option, MatchOption}
use Rattle.std.specs.VecDeque.{deque_len, deque_capacity}
use mathlib.Core.List.{IsPrefix}
use denote.Bor.{Bor}
use Rattle.rtrb.specs.Ring.{sent, received, known_free, known_items, IsPair, SameProducer, SameConsumer}
use Rattle.thread_lane.specs.Fulls.{IsOneMore}
use Rattle.thread_lane.specs.declared.putting.LaneIn.{LaneIn}
use Rattle.thread_lane.specs.declared.taking.LaneOut.{LaneOut}

module _ {T : Type 0} where
  -- every item that was pushed into the ring, oldest first
  abbrev pub pushed_list : LaneIn T → List T
  pushed_list a = sent a.producer

  -- the items that wait in the outbox, oldest first
  abbrev pub waiting_list : LaneIn T → List T
  waiting_list a = a.outbox.items

  -- every item that was put, oldest first
  abbrev pub put_list : LaneIn T → List T
  put_list a = pushed_list a ++ waiting_list a

  -- how many items may be put before more room is made
  abbrev pub spare : LaneIn T → ℕ
  spare a = deque_capacity a.outbox - deque_len a.outbox

  -- how many places of the ring this end knows to be free
  abbrev pub free_places : LaneIn T → ℕ
  free_places a = known_free a.producer

  -- the number on the mark
  abbrev pub mark_of : LaneIn T → ℕ
  mark_of a = a.seat.me.0.count

  -- every item that was taken, oldest first
  abbrev pub taken_list : LaneOut T → List T
  taken_list b = take b.taken (received b.consumer)

  -- the rest: the items that `settle` moved and that are not taken yet
  abbrev pub rest_list : LaneOut T → List T
  rest_list b = b.rest.items

  -- the items that this end knows to come next
  abbrev pub coming_list : LaneOut T → List T
  coming_list b = rest_list b ++ known_items b.consumer

  -- how many items this end has had from the ring
  abbrev pub had_count : LaneOut T → ℕ
  had_count b = length (received b.consumer)

  -- the number that the mark showed to this end last
  abbrev pub shown_mark : LaneOut T → ℕ
  shown_mark b = b.seat.me.0.count

  -- how often the mark showed this end that it had everything
  abbrev pub misses : LaneOut T → ℕ
  misses b = b.seat.me.0.misses

  -- the two are the ends of one lane: of one ring, and with one mark
  abbrev pub IsLane : LaneIn T → LaneOut T → Type 0
  IsLane a b = IsPair a.producer b.consumer × (b.seat.table_id ≡ a.seat.table_id)

  -- no full was counted
  abbrev pub NoFull : LaneIn T → LaneIn T → Type 0
  NoFull a b = b.fulls ≡ a.fulls

  -- A FULL: a look at the ring found every place taken, which is counted, and this end knows of none that is free
  abbrev pub IsFull : LaneIn T → LaneIn T → Type 0
  IsFull a b = IsOneMore a.fulls b.fulls × (free_places b ≡ 0)

  -- it is the same end, later, with the same mark
  abbrev pub SameIn : LaneIn T → LaneIn T → Type 0
  SameIn a b = SameProducer a.producer b.producer × (b.seat.table_id ≡ a.seat.table_id)

  abbrev pub SameOut : LaneOut T → LaneOut T → Type 0
  SameOut a b = SameConsumer a.consumer b.consumer × (b.seat.table_id ≡ a.seat.table_id)

  -- A MISS: the mark showed that this end has had everything from the ring; the rest is empty, and it knows of no item to come
  pub record Misses (a b : LaneOut T) : Type 0 where
    pub no_rest : rest_list a ≡ []
    pub none_comes : coming_list a ≡ []
    pub counted : misses b ≡ misses a + 1
    pub shown : shown_mark b ≡ had_count b

  -- x was taken from the rest, as its first item; the end had nothing further from the ring and saw nothing of the mark
  pub record LeavesRest (a b : LaneOut T) (x : T) : Type 0 where
    pub rest : rest_list a ≡ x ∷ rest_list b
    pub coming : coming_list a ≡ x ∷ coming_list b
    pub had : had_count b ≡ had_count a
    pub shown : shown_mark b ≡ shown_mark a

  -- an item was taken from the ring; the rest was empty and stays empty
  pub record LeavesRing (a b : LaneOut T) : Type 0 where
    pub no_rest : rest_list a ≡ []
    pub still_none : rest_list b ≡ []
    pub had : had_count b ≡ had_count a + 1

  -- x was shown: it is the first item to come, and no miss was counted
  pub record Shows (a b : LaneOut T) (x : T) : Type 0 where
    pub first : IsPrefix (x ∷ []) (coming_list b)
    pub seen : misses b ≡ misses a

  -- WHAT A LOOK PROMISES: nothing is taken, and what this end knew to come still comes first; it showed an item, or it is a miss
  pub record Looks (a b : LaneOut T) (shown : Option (Bor T)) : Type 0 where
    pub same : SameOut a b
    pub taken : taken_list b ≡ taken_list a
    pub rest : rest_list b ≡ rest_list a
    pub known : IsPrefix (coming_list a) (coming_list b)
    pub told : MatchOption shown (Misses a b) (λ x. Shows a b x.now)
