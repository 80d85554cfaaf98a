-- What the builder of documents stores.
use Rattle.std.specs.Prelude.{◌≡◌, ℕ, ◌<◌, false, List, [], ◌∷◌, length, reverse, Option, Some, None, IsTrue, IsUtf8, ⊤, string_bytes}
use Rattle.std.specs.List.{AllZip}
use Rattle.std.specs.Map.{keys_of}
use Rattle.std.specs.declared.alloc.Global.{Global}
use Rattle.std.specs.declared.string.String.{String}
use Rattle.jsonb_doc.specs.Tree.{Tree}
use Rattle.jsonb_doc.specs.Payload.{Form, number_reader}
use Rattle.jsonb_doc.specs.Format.{IsContent, Decodes, IsBelowFirst}
use Rattle.jsonb_doc.specs.Kinds.{kind_number}
use Rattle.jsonb_doc.specs.ObjectBuilder.{has_key}
use Rattle.jsonb_doc.specs.Events.{Level, root, array_of, object_of, State, takes_value}
use Rattle.jsonb_doc.specs.Representation.Pieces.{bytes_at}
use Rattle.jsonb_doc.specs.declared.pieces.Piece.{Piece}
use Rattle.jsonb_doc.specs.declared.piece_entry.PieceEntry.{PieceEntry}
use Rattle.jsonb_doc.specs.declared.document_builder.frame.Frame.{Frame}
use Rattle.jsonb_doc.specs.declared.document_builder.frame.Frame.TheVariants.{Root, Array, Object}
use Rattle.jsonb_doc.specs.declared.document_builder.DocumentBuilder.{DocumentBuilder}

-- Holds if the piece at this index is the content of an entry of the tree, of this type and length.
pub record IsPieceOf (form : Form) (ps : List Piece) (kind piece len : ℕ) (t : Tree) : Type 0 where
  pub before : piece < length ps
  pub size : length (bytes_at ps piece) ≡ len
  pub content : IsContent (number_reader form) t kind (bytes_at ps piece)

abbrev pub IsEntryOf : Form → List Piece → PieceEntry → Tree → Type 0
IsEntryOf form ps e t = IsPieceOf form ps (kind_number e.kind) e.piece e.len t

-- Holds if the members are these pairs.
abbrev pub AreMembersOf : Form → List Piece → List (String Global × PieceEntry) → List (List ℕ × Tree) → Type 0
AreMembersOf form ps es prs = AllZip (λ e p. (string_bytes e.0 ≡ p.0) × IsEntryOf form ps e.1 p.1) es prs

-- Holds if each key is UTF-8 and below the next.
abbrev pub AreSortedTexts : List (List ℕ) → Type 0
AreSortedTexts [] = ⊤
AreSortedTexts (key ∷ ks) = IsUtf8 key × IsBelowFirst key ks × AreSortedTexts ks

-- Holds if both are none, or a key that none of the pairs has.
abbrev pub IsNextKey : List (List ℕ × Tree) → Option (String Global) → Option (List ℕ) → Type 0
IsNextKey prs None None = ⊤
IsNextKey prs (Some text) (Some key) = (string_bytes text ≡ key) × IsUtf8 key × (has_key key prs ≡ false)
IsNextKey prs _ _ = ⊥

-- Holds if a frame over these pieces has what the level has.
abbrev pub HoldsLevel : Form → List Piece → Frame → Level → Type 0
HoldsLevel form ps (Root None) (root None) = ⊤
HoldsLevel form ps (Root (Some i)) (root (Some t)) = (i < length ps) × Decodes form (bytes_at ps i) t
HoldsLevel form ps (Array es) (array_of ts) = AllZip (IsEntryOf form ps) es.items ts
HoldsLevel form ps (Object members key) (object_of prs next) =
    AreMembersOf form ps members.entries prs × AreSortedTexts (keys_of prs) × IsNextKey prs key next
HoldsLevel form ps _ _ = ⊥

-- Holds if a frame around others has what the level has, and waits for a value.
abbrev pub HoldsOuter : Form → List Piece → Frame → Level → Type 0
HoldsOuter form ps frame level = HoldsLevel form ps frame level × IsTrue (takes_value level)

-- Holds if the builder has the state.
pub record Holds (form : Form) (b : DocumentBuilder) (s : State) : Type 0 where
  pub inner : HoldsLevel form b.pieces.items b.inner s.inner
  pub around : AllZip (HoldsOuter form b.pieces.items) (reverse b.around.items) s.around
