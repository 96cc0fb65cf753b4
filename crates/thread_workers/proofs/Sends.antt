-- A cell may go to another thread, with all its parts, and so a worker may.
use denote.RattleType.{RattleType}
use denote.Ref.{NamedLft}
use denote.Struct.Declared.{shape}
use denote.Param.Send.{IsSend, IsSync, sendable, struct_send, struct_sync}
use Rattle.std.proofs.Crossing.{crosses}
use Rattle.std_heap.specs.contracts.Global as Heap
use Rattle.std_heap.specs.contracts.GlobalAllocator.TheImpl as heap_impl
use Rattle.std.proofs.alloc.Global.TheSendSync as heap
use Rattle.rtrb.proofs.end.End.TheSendSync as end
use Rattle.atomic_table.proofs.shared.Seat.TheSendSync as seat
use Rattle.atomic_table.proofs.shared.Shared.TheSendSync as shared
use Rattle.atomic_table.proofs.send_lease.SendLease.TheSendSync as lease
use Rattle.logbook.proofs.tokens.Seen.TheSendSync as seen
use Rattle.logbook.proofs.tokens.Pen.TheSendSync as pen
use Rattle.logbook.proofs.word.Word.TheSendSync as word
use Rattle.left_right.proofs.part.Part.TheSendSync as part
use Rattle.left_right.proofs.part.Deed.TheSendSync as deed
use Rattle.atomic_table.specs.contracts.owned.Table as SharedTable
use Rattle.left_right.specs.contracts.reader.Factory as Factory
use Rattle.left_right.specs.contracts.reader.Reader as Reader
use Rattle.left_right.specs.contracts.desk.Desk as Desk
use Rattle.left_right.specs.contracts.writer.Writer as Writer
use Rattle.filter_values.specs.contracts.name.Name as Name
use Rattle.filter_values.specs.contracts.value.Value as Value
use Rattle.filter_constraints.specs.contracts.constraint.Constraint as Constraint
use Rattle.filter_types.specs.contracts.filter.Constraints as Constraints
use Rattle.filter_types.specs.contracts.notice.Notice as Notice
use Rattle.base_bits.specs.contracts.row.Row as Row
use Rattle.base_bits.specs.contracts.place.Place as Place
use Rattle.base_bits.specs.contracts.sets.Sets as Sets
use Rattle.filter_text.specs.contracts.command.Command as Command
use Rattle.filter_text.specs.contracts.lists.Lists as Lists
use Rattle.net_inbox.specs.contracts.kept.Kept as KeptDelivery
use Rattle.net_inbox.specs.contracts.deliveries.Deliveries as Deliveries
use Rattle.net_tables.specs.contracts.numbered.NumberedCommand as NumberedCommand
use Rattle.net_tables.specs.contracts.publication.Publication as Publication
use Rattle.net_tables.specs.contracts.catalogue.Catalogue as Catalogue
use Rattle.base_order.specs.contracts.order.Order as Order
use Rattle.base_pool.proofs.Crossing.{items_sync}
use Rattle.match_filters.proofs.Crossing.{matcher_sync}
use Rattle.net_tables.specs.contracts.tables.Tables as Tables
use Rattle.server_stock.specs.contracts.holders.Holders as Holders
use Rattle.server_stock.specs.contracts.sides.Side as Side
use Rattle.server_stock.specs.contracts.stock.Stock as Stock
use Rattle.server_control.specs.contracts.control.Control as Control
use Rattle.server_session.specs.contracts.own.Own as Own
use Rattle.server_session.specs.contracts.session.Session as Session
use Rattle.server_core.specs.contracts.clients.Clients as Clients
use Rattle.server_core.specs.contracts.ledger.Ledger as Ledger
use Rattle.server_core.specs.contracts.server.Core as Core
use Rattle.match_routes.specs.contracts.table_change.TableChange as TableChange
use Rattle.match_routes.specs.contracts.forwarding.Forwarding as Forwarding
use Rattle.server_message.specs.contracts.set_change.SetChange as SetChange
use Rattle.server_message.specs.contracts.load.Load as Load
use Rattle.server_message.specs.contracts.stamped.StampedLoad as StampedLoad
use Rattle.filter_covering.specs.contracts.items.Sub as Sub
use Rattle.filter_covering.specs.contracts.items.Ad as Ad
use Rattle.base_tree.specs.contracts.tree.Tree as Tree
use Rattle.net_model.specs.contracts.client.Client as Client
use Rattle.net_model.specs.contracts.net.Net as Net
use Rattle.net_model.specs.contracts.entry.Entry as Entry
use Rattle.net_journal.specs.contracts.journal.Journal as Journal
use Rattle.thread_lane.specs.contracts.putting.LaneIn as LaneIn
use Rattle.thread_lane.specs.contracts.taking.LaneOut as LaneOut
use Rattle.thread_versions.specs.contracts.history.History as History
use Rattle.thread_versions.specs.contracts.history.Past as Past
use Rattle.thread_versions.specs.contracts.front.Front as Front
use Rattle.thread_versions.specs.contracts.version.Step as Step
use Rattle.thread_versions.specs.contracts.version.Version as Version
use Rattle.thread_versions.specs.contracts.publisher.Publisher as Publisher
use Rattle.thread_versions.specs.contracts.viewer.Viewer as Viewer
use Rattle.atomic_table.proofs.badge.Badge.TheSendSync as badge
use Rattle.thread_lock.specs.contracts.lock.TurnLock as TurnLock
use Rattle.thread_lock.specs.contracts.lock.Pass as Pass
use Rattle.thread_cell.specs.contracts.link.Link as Link
use Rattle.thread_cell.specs.contracts.held.ServerInHand as Held
use Rattle.thread_cell.specs.contracts.held.Root as Root
use Rattle.thread_cell.specs.contracts.cell.Cell as Cell
use Rattle.thread_cell.specs.contracts.cell.CellStanding.TheImpl as standing
use Rattle.thread_workers.specs.contracts.ended.Ended as OwnEnded
use Rattle.thread_workers.specs.contracts.worker_handles.WorkerHandles as OwnHandles
use Rattle.thread_workers.specs.contracts.worker_context.WorkerContext as OwnContext
use Rattle.thread_workers.specs.contracts.worker.Worker as Worker
use Rattle.thread_workers.specs.contracts.workers_of_thread.ThreadWorkers as ThreadWorkers
use Rattle.thread_workers.specs.contracts.phase_context.PhaseContext as PhaseContext
use Rattle.thread_workers.specs.contracts.workers_of_thread.Back as Back
use Rattle.thread_workers.specs.contracts.pace.Pace as Pace

ruleset ours = (sendable, crosses, end.the_send, seat.the_send, shared.the_send, shared.the_sync, lease.the_send, lease.the_sync, heap.the_field_send, seen.the_send, seen.the_sync, pen.the_send, word.the_send, part.the_send, part.the_sync, deed.the_send)

pub name_send : IsSend Name.the_field.row
name_send = search (sendable, crosses) depth 20

pub name_sync : IsSync Name.the_field.row
name_sync = search (sendable, crosses) depth 20

pub value_send : IsSend Value.the_field.row
value_send = search (sendable, crosses) depth 20

pub value_sync : IsSync Value.the_field.row
value_sync = search (sendable, crosses) depth 20

pub constraint_send : IsSend Constraint.the_field.row
constraint_send = let a = name_send in let b = value_send in search (sendable, crosses) depth 20

pub constraint_sync : IsSync Constraint.the_field.row
constraint_sync = let a = name_sync in let b = value_sync in search (sendable, crosses) depth 20

-- filters and advertisements
pub constraints_sync : (T : RattleType) → IsSync (Constraints.the_field T).row
constraints_sync T = let a = constraint_send in let b = constraint_sync in search (sendable, crosses) depth 20

pub notice_sync : IsSync Notice.the_field.row
notice_sync = let a = name_send in let b = value_send in let c = name_sync in let d = value_sync in search (sendable, crosses) depth 20

pub change_send : IsSend TableChange.the_field.row
change_send = search (sendable, crosses) depth 20

pub row_send : IsSend Row.the_field.row
row_send = search (sendable, crosses) depth 20

pub row_sync : IsSync Row.the_field.row
row_sync = search (sendable, crosses) depth 20

pub past_send : IsSend Past.the_field.row
past_send = search ours depth 20

pub past_sync : IsSync Past.the_field.row
past_sync = search ours depth 20

pub history_send : IsSend History.the_field.row
history_send = search ours depth 20

pub front_send : IsSend Front.the_field.row
front_send = let a = past_send in search ours depth 20

pub front_sync : IsSync Front.the_field.row
front_sync = let a = past_sync in search ours depth 20

pub forwarding_send : IsSend Forwarding.the_field.row
forwarding_send = let a = row_send in search (sendable, crosses) depth 20

pub forwarding_sync : IsSync Forwarding.the_field.row
forwarding_sync = let a = row_sync in search (sendable, crosses) depth 20

pub version_send : IsSend Version.the_row
version_send = let a = front_send in let b = forwarding_send in search ours depth 20

pub version_sync : IsSync Version.the_row
version_sync = let a = front_sync in let b = forwarding_sync in search ours depth 20

pub step_send : IsSend Step.the_row
step_send = let a = front_send in let b = change_send in search ours depth 20

pub shared_send : (S V K P : RattleType) (g : _) → IsSend S → IsSend (SharedTable.the_field S V K P Heap.the_row g heap_impl.ghosts).row
shared_send S V K P g s = struct_send (shape (SharedTable.the_type S V K P Heap.the_row g heap_impl.ghosts))
    (search ours depth 20, (search ours depth 20, (search ours depth 20, (search ours depth 20, (search ours depth 20, (search ours depth 20, tt))))))

pub shared_sync : (S V K P : RattleType) (g : _) → IsSend S → IsSync (SharedTable.the_field S V K P Heap.the_row g heap_impl.ghosts).row
shared_sync S V K P g s = struct_sync (shape (SharedTable.the_type S V K P Heap.the_row g heap_impl.ghosts))
    (search ours depth 20, (search ours depth 20, (search ours depth 20, (search ours depth 20, (search ours depth 20, (search ours depth 20, tt))))))

pub factory_send : (T V P : RattleType) (g : _) → IsSync T → IsSend (Factory.the_field T V P Heap.the_row g heap_impl.ghosts).row
factory_send T V P g y = struct_send (shape (Factory.the_type T V P Heap.the_row g heap_impl.ghosts)) (search (ours, shared_send, shared_sync) depth 20, tt)

pub reader_send : (T V P : RattleType) (g : _) → IsSync T → IsSend (Reader.the_field T V P Heap.the_row g heap_impl.ghosts).row
reader_send T V P g y = struct_send (shape (Reader.the_type T V P Heap.the_row g heap_impl.ghosts)) (search (ours, factory_send) depth 20, (search ours depth 20, (search ours depth 20, tt)))

pub desk_field_send : (T V P : RattleType) (g : _) → IsSend T → IsSync T → IsSend (Desk.the_field T V P Heap.the_row g heap_impl.ghosts).row
desk_field_send T V P g s y = struct_send (shape (Desk.the_type T V P Heap.the_row g heap_impl.ghosts)) (
  search (ours, factory_send) depth 20,
  (
    search ours depth 20,
    (
      search ours depth 20,
      (
        search ours depth 20,
        (
          search ours depth 20,
          (
            search ours depth 20,
            (search ours depth 20, (search ours depth 20, (search ours depth 20, tt))),
          ),
        ),
      ),
    ),
  ),
)

pub writer_send : (T O V P S : RattleType) (a : _) (g : _) → IsSend T → IsSync T → IsSend O → IsSend (Writer.the_field T O V P Heap.the_row S a g heap_impl.ghosts).row
writer_send T O V P S a g s y o = struct_send (shape (Writer.the_type T O V P Heap.the_row S a g heap_impl.ghosts))
    (search (ours, desk_field_send) depth 20, (search ours depth 20, (search ours depth 20, (search ours depth 20, tt))))

pub viewer_send : IsSend Viewer.the_field.row
viewer_send = let c = version_sync in let a = front_send in search (ours, reader_send) depth 20

pub publisher_send : IsSend Publisher.the_field.row
publisher_send =
    let a = front_send in let b = version_send in let c = version_sync in let d = step_send in let e = change_send in let f = history_send in
    search (ours, writer_send) depth 20

pub command_sync : IsSync Command.the_field.row
command_sync = let c = notice_sync in search (sendable, crosses, constraints_sync) depth 20

pub kept_send : IsSend KeptDelivery.the_field.row
kept_send = search (sendable, crosses) depth 20

pub kept_sync : IsSync KeptDelivery.the_field.row
kept_sync = search (sendable, crosses) depth 20

pub deliveries_sync : IsSync Deliveries.the_field.row
deliveries_sync = let a = kept_send in let b = kept_sync in search (sendable, crosses) depth 20

pub place_sync : IsSync Place.the_row
place_sync = search (sendable, crosses) depth 20

pub sets_sync : IsSync Sets.the_field.row
sets_sync = let a = place_sync in search (sendable, crosses) depth 20

pub numbered_sync : IsSync NumberedCommand.the_field.row
numbered_sync = search (sendable, crosses) depth 20

pub publication_sync : IsSync Publication.the_row
publication_sync = let a = notice_sync in search (sendable, crosses) depth 20

pub lists_sync : (T : RattleType) → IsSync T → IsSync (Lists.the_field T).row
lists_sync T a = search (sendable, crosses) depth 20

pub sub_sync : IsSync Sub.the_row
sub_sync = search (sendable, crosses, constraints_sync) depth 20

pub ad_sync : IsSync Ad.the_row
ad_sync = search (sendable, crosses, constraints_sync) depth 20

pub tree_sync : IsSync Tree.the_field.row
tree_sync = search (sendable, crosses) depth 20

pub client_sync : IsSync Client.the_field.row
client_sync = let a = name_sync in let b = command_sync in search (sendable, crosses) depth 20

pub net_sync : IsSync Net.the_row
net_sync = let a = tree_sync in let b = client_sync in search (sendable, crosses) depth 20

pub entry_send : IsSend Entry.the_field.row
entry_send = search (sendable, crosses) depth 20

pub journal_send : IsSend Journal.the_field.row
journal_send = let a = entry_send in search (sendable, crosses) depth 20

pub catalogue_sync : (κ : NamedLft) → IsSync (Catalogue.the_field κ).row
catalogue_sync κ =
    let a = net_sync in let b = sub_sync in let c = ad_sync in let d = publication_sync in let e = numbered_sync in let f = matcher_sync in
    search (sendable, crosses, lists_sync, items_sync) depth 20

pub order_sync : (T : RattleType) (g : _) → IsSync T → IsSync (Order.the_field T g).row
order_sync T g a = let b = row_sync in search (sendable, crosses) depth 20

pub tables_sync : (κ : NamedLft) → IsSync (Tables.the_field κ).row
tables_sync κ =
    let a = catalogue_sync κ in let b = sub_sync in let c = ad_sync in let d = row_sync in let e = deliveries_sync in let f = sets_sync in
    search (sendable, crosses, order_sync) depth 20

pub tables_row_sync : (κ : NamedLft) → IsSync (Tables.the_row κ)
tables_row_sync κ = let a = tables_sync κ in search (sendable, crosses) depth 20

pub holders_send : IsSend Holders.the_field.row
holders_send = let a = row_send in search (sendable, crosses) depth 20

pub side_send : IsSend Side.the_row
side_send = let a = row_send in search (sendable, crosses) depth 20

pub stock_send : (κ : NamedLft) (T : RattleType) (g : _) → IsSync T → IsSend (Stock.the_field κ T g).row
stock_send κ T g a = let b = holders_send in let c = side_send in search (sendable, crosses, order_sync) depth 20

pub control_send : (κ : NamedLft) → IsSend (Control.the_field κ).row
control_send κ = let a = sub_sync in let b = ad_sync in let c = row_send in let d = row_sync in search (sendable, crosses, stock_send) depth 20

pub ledger_send : (κ : NamedLft) → IsSend (Ledger.the_field κ).row
ledger_send κ = let a = control_send κ in let b = change_send in let c = tables_row_sync κ in search ours depth 20

pub own_send : IsSend Own.the_row
own_send = let a = row_send in search (sendable, crosses) depth 20

pub session_send : (κ : NamedLft) → IsSend (Session.the_field κ).row
session_send κ = let a = command_sync in let b = own_send in let d = tables_row_sync κ in let e = numbered_sync in search ours depth 20

pub clients_send : (κ : NamedLft) → IsSend (Clients.the_field κ).row
clients_send κ = let a = session_send κ in let b = tables_row_sync κ in search (sendable, crosses) depth 20

pub core_send : (κ : NamedLft) → IsSend (Core.the_field κ).row
core_send κ = let a = ledger_send κ in let b = clients_send κ in search ours depth 20

pub changed_send : IsSend SetChange.the_field.row
changed_send = search (sendable, crosses) depth 20

pub load_send : IsSend Load.the_field.row
load_send = let a = changed_send in search (sendable, crosses) depth 20

pub stamped_send : IsSend StampedLoad.the_row
stamped_send = let a = load_send in search (sendable, crosses) depth 20

pub in_send : (F : RattleType) → IsSend F → IsSend (LaneIn.the_field F).row
in_send F f = struct_send (shape (LaneIn.the_type F))
    (search ours depth 20, (search ours depth 20, (search ours depth 20, (search (sendable, crosses) depth 20, (search ours depth 20, (search ours depth 20, tt))))))

pub out_send : (F : RattleType) → IsSend F → IsSend (LaneOut.the_field F).row
out_send F f = struct_send (shape (LaneOut.the_type F)) (search ours depth 20, (search ours depth 20, (search ours depth 20, (search ours depth 20, (search ours depth 20, tt)))))

pub link_send : IsSend Link.the_field.row
link_send = let f = stamped_send in let a = in_send StampedLoad.the_row f in let b = out_send StampedLoad.the_row f in search (sendable, crosses) depth 20

pub held_send : (κ : NamedLft) → IsSend (Held.the_field κ).row
held_send κ = let a = core_send κ in let b = link_send in let c = publisher_send in let d = change_send in search (sendable, crosses) depth 20

pub root_send : (κ : NamedLft) → IsSend (Root.the_field κ).row
root_send κ = search (sendable, crosses) depth 20

pub cell_send : (κ : NamedLft) → IsSend (Cell.the_field κ).row
cell_send κ = let a = held_send κ in let b = root_send κ in let c = journal_send in let d = tables_row_sync κ in search ours depth 20

pub cell_row_send : (κ : NamedLft) → IsSend (Cell.the_row κ)
cell_row_send κ = let a = cell_send κ in search (sendable, crosses) depth 20

pub lock_sync : (κ : NamedLft) (g : _) → IsSync (TurnLock.the_field (Cell.the_row κ) (Root.the_row κ) Entry.the_row g).row
lock_sync κ g = let a = cell_row_send κ in struct_sync (shape (TurnLock.the_type (Cell.the_row κ) (Root.the_row κ) Entry.the_row g)) (search (ours, shared_sync) depth 20, tt)

pub pass_send : (I R : RattleType) → IsSend (Pass.the_field I R).row
pass_send I R = struct_send (shape (Pass.the_type I R)) (search (sendable, badge.the_send) depth 20, tt)

pub handles_send : (κ : NamedLft) → IsSend (OwnHandles.the_field κ).row
handles_send κ = let a = viewer_send in search (sendable, pass_send) depth 20

pub pace_sync : IsSync Pace.the_field.row
pace_sync = search (sendable, crosses) depth 20

pub context_send : (κ ν : NamedLft) (R G : RattleType) → IsSync R → IsSync G → IsSend (OwnContext.the_field κ ν R G).row
context_send κ ν R G r h = let a = lock_sync ν standing.ghosts in let b = tables_row_sync ν in let e = pace_sync in
    struct_send (shape (OwnContext.the_type κ ν R G))
    (search sendable depth 20, (search ours depth 20, (search sendable depth 20, (search sendable depth 20, (search sendable depth 20, (search sendable depth 20, (search sendable depth 20, (search sendable depth 20, (search sendable depth 20, tt)))))))))

pub worker_send : (κ ν : NamedLft) (R G : RattleType) → IsSync R → IsSync G → IsSend (Worker.the_field κ ν R G).row
worker_send κ ν R G r h = let a = context_send κ ν R G r h in let b = handles_send ν in
    struct_send (shape (Worker.the_type κ ν R G)) (search sendable depth 20, (search sendable depth 20, (search sendable depth 20, (search sendable depth 20, (search (sendable, crosses) depth 20, tt)))))

pub ended_send : (κ : NamedLft) → IsSend (OwnEnded.the_field κ).row
ended_send κ = let a = viewer_send in search (sendable, crosses, pass_send) depth 20

pub phase_context_send : (κ ν : NamedLft) (R G : RattleType) → IsSync R → IsSync G → IsSend (PhaseContext.the_field κ ν R G).row
phase_context_send κ ν R G r h = let b = tables_row_sync ν in let e = pace_sync in
    struct_send (shape (PhaseContext.the_type κ ν R G)) (search sendable depth 20, (search ours depth 20, (search sendable depth 20, (search sendable depth 20, (search sendable depth 20, (search sendable depth 20, tt))))))

pub of_thread_send : (κ ν : NamedLft) (R G : RattleType) → IsSync R → IsSync G → IsSend (ThreadWorkers.the_field κ ν R G).row
of_thread_send κ ν R G r h = let a = worker_send κ ν R G r h in let b = ended_send ν in let c = phase_context_send κ ν R G r h in
    struct_send (shape (ThreadWorkers.the_type κ ν R G)) (search sendable depth 20, (search sendable depth 20, (search sendable depth 20, (search ours depth 20, (search ours depth 20, tt)))))

pub back_send : (κ : NamedLft) → IsSend (Back.the_field κ).row
back_send κ = let a = ended_send κ in search ours depth 20
