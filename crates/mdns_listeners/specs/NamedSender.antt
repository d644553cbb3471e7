-- Rows of senders with the names that they go by, and the names of the listeners that rows give by their positions.
use Rattle.std.specs.Prelude.{ℕ, List, [], slice_index_or}
use Rattle.mdns_listeners.specs.declared.{named_sender.NamedSender.{NamedSender as LentSender}, senders.SenderRow.{SenderRow}}

-- a row of a sender, and the names that the sender goes by
pub record NamedSender : Type 0 where
  pub row : SenderRow
  pub names : List (List ℕ)

-- the row whose names are lent
abbrev pub sender_lent : LentSender → NamedSender
sender_lent sender = record { row = sender.row; names = sender.names.now }

-- the name of the listener at a position; empty if there is no such listener
abbrev pub listener_name_at : List (List ℕ) → ℕ → List ℕ
listener_name_at listener_names listener = slice_index_or listener_names listener []
