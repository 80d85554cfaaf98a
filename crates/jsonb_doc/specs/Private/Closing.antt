-- Containers that are closed: their pieces.
use Rattle.std.specs.Prelude.{◌≡◌, ◌⊎◌, ℕ, ◌+◌, ◌<◌, ◌^◌, List, [], ◌∷◌, ◌++◌, length, map, flat_map, reverse, sum_by, string_bytes, Option, Some, None, Result, Ok, Err}
use Rattle.std.specs.declared.alloc.Global.{Global}
use Rattle.std.specs.declared.string.String.{String}
use Rattle.jsonb_doc.specs.Tree.{Tree}
use Rattle.jsonb_doc.specs.Payload.{Form}
use Rattle.jsonb_doc.specs.Format.{entry_word, header, array_header, object_header, key_words, key_bytes}
use Rattle.jsonb_doc.specs.Private.EntryKinds.{container_entry}
use Rattle.jsonb_doc.specs.Kinds.{kind_number}
use Rattle.jsonb_doc.specs.Limits.{AreShortKeys, HasShortParts}
use Rattle.jsonb_doc.specs.Representation.DocumentBuilder.{IsPieceOf}
use Rattle.jsonb_doc.specs.declared.error.Error.TheVariants.{OutOfMemory, TooLarge}
use Rattle.jsonb_doc.specs.declared.event_error.EventError.{EventError}
use Rattle.jsonb_doc.specs.declared.event_error.EventError.TheVariants.{OutOfOrder, Failed}
use Rattle.jsonb_doc.specs.declared.pieces.Piece.{Piece}
use Rattle.jsonb_doc.specs.declared.piece_entry.PieceEntry.{PieceEntry}
use Rattle.jsonb_doc.specs.declared.document_builder.closing.Closed.{Closed}

-- the words of entries, and the number of bytes of their contents
abbrev pub entry_words : List PieceEntry → List ℕ
entry_words es = flat_map (λ e. entry_word (kind_number e.kind) e.len) es

abbrev pub total_len : List PieceEntry → ℕ
total_len es = sum_by (λ e. e.len) es

-- the keys of members, and their values
abbrev pub member_keys : List (String Global × PieceEntry) → List (List ℕ)
member_keys es = map (λ e. string_bytes e.0) es

abbrev pub member_entries : List (String Global × PieceEntry) → List PieceEntry
member_entries es = map (λ e. e.1) es

-- the bytes of a container before its contents
abbrev pub array_head : List PieceEntry → List ℕ
array_head es = header array_header (length es) ++ entry_words es

abbrev pub object_head : List (String Global × PieceEntry) → List ℕ
object_head es =
    header object_header (length es)
    ++ (key_words (member_keys es) ++ (entry_words (member_entries es) ++ key_bytes (member_keys es)))

-- the piece has this head, and after it the pieces of these entries
abbrev pub IsClosed : List ℕ → List PieceEntry → Closed → Type 0
IsClosed head es c =
    (c.piece.head.items ≡ head) × (c.piece.rest.items ≡ reverse (map (λ e. e.piece) es))
    × (c.len ≡ length head + total_len es)

-- an object of these members is within the limits, as far as its own count and keys
abbrev pub HasShortHead : List (String Global × PieceEntry) → Type 0
HasShortHead es = (length es < 2 ^ 29) × AreShortKeys (member_keys es)

-- the result is the piece of this container, or the error of an event that cannot come next
abbrev pub Closes : Form → List Piece → Option Tree → Result Closed EventError → Type 0
Closes form ps None result = result ≡ Err OutOfOrder
Closes form ps (Some t) (Ok c) = IsPieceOf form (ps ++ c.piece ∷ []) container_entry (length ps) c.len t
Closes form ps (Some t) (Err e) =
    (e ≡ Failed OutOfMemory) ⊎ ((e ≡ Failed TooLarge) × (HasShortParts form t → ⊥))
