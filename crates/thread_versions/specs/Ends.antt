-- What contracts see of publishers, viewers and matches ahead.
use Rattle.std.specs.Prelude.{◌≡◌, ◌<◌, ℕ, List, vec_len, vec_capacity}
use Rattle.left_right.specs.Sides.{view}
use Rattle.match_routes.specs.declared.table_change.TableChange.{TableChange}
use Rattle.match_routes.specs.Installed.{Installed, IsOfSame}
use Rattle.thread_versions.specs.declared.publisher.Publisher.{Publisher}
use Rattle.thread_versions.specs.declared.viewer.Viewer.{Viewer}
use Rattle.thread_versions.specs.declared.ahead.Ahead.{Ahead}

-- all changes that were pending, in their order; those that are installed come first
abbrev pub pending : Publisher → List TableChange
pending p = p.history.log

-- it has the memory for one pending change more
abbrev pub HasRoom : Publisher → Type 0
HasRoom p = vec_len p.waiting < vec_capacity p.waiting

-- the changes that are installed
abbrev pub installed : Publisher → List TableChange
installed p = p.shown.seen.log

-- the numbers and interfaces of a publisher, with the pairs that are installed
abbrev pub forwarding_of : Publisher → Installed
forwarding_of p = p.writer.desk.shown.value.forwarding

-- how often it showed a version: each was one step, at which viewers came to see all that was installed with it and none of it before
abbrev pub shows : Publisher → ℕ
shows p = (view p.writer.desk.place).shows

-- the installed changes that the viewer has seen
abbrev pub seen_by : Viewer → List TableChange
seen_by v = v.front.seen.log

-- below which number all are that the viewer can see installed
abbrev pub width_of : Viewer → ℕ
width_of v = (view v.reader.place).width

-- the installed changes by which the match ahead has its route
abbrev pub seen_in : Ahead → List TableChange
seen_in a = a.front.seen.log

-- the matched numbers and their route
abbrev pub matched_in : Ahead → List ℕ
matched_in a = a.matched.members

abbrev pub route_in : Ahead → List ℕ
route_in a = a.route

-- it is the same publisher, later
pub record IsSamePublisher (p q : Publisher) : Type 0 where
  pub book : q.history.book ≡ p.history.book
  pub server : IsOfSame (forwarding_of q) (forwarding_of p)

-- it is the same viewer, later
pub record IsSameViewer (v w : Viewer) : Type 0 where
  pub book : w.front.seen.book ≡ v.front.seen.book
  pub width : width_of w ≡ width_of v

-- the viewer is one of this publisher's
pub record IsViewerOf (p : Publisher) (v : Viewer) : Type 0 where
  pub book : v.front.seen.book ≡ p.history.book
  pub width : width_of v ≡ (forwarding_of p).width

-- a viewer of this publisher made the match ahead
abbrev pub IsAheadOf : Publisher → Ahead → Type 0
IsAheadOf p a = a.front.seen.book ≡ p.history.book

-- the viewer made the match ahead, or another one of the same publisher
abbrev pub IsAheadBy : Viewer → Ahead → Type 0
IsAheadBy v a = a.front.seen.book ≡ v.front.seen.book
