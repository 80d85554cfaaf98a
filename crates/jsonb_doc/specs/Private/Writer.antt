-- Containers that are being written: the trees that are still to come, and the tree that they become.
use Rattle.std.specs.Prelude.{◌≡◌, ℕ, ◌+◌, ◌*◌, ◌^◌, ◌<◌, List, [], ◌∷◌, ◌++◌, false, length, map, ⊤}
use Rattle.std.specs.Map.{keys_of, values_of}
use Rattle.jsonb_doc.specs.Tree.{Tree, text, array, object, trees_of, pairs_of}
use Rattle.jsonb_doc.specs.Payload.{Form, number_reader}
use Rattle.jsonb_doc.specs.Format.{AreEntries, IsBelowFirst, header}
use Rattle.jsonb_doc.specs.Limits.{HasShortParts}
use Rattle.jsonb_doc.specs.Private.Headers.{header_number}
use Rattle.jsonb_doc.specs.declared.layout.HeaderKind.{HeaderKind}
use Rattle.jsonb_doc.specs.declared.layout.HeaderKind.TheVariants.{Scalar, Object, Array}
use Rattle.jsonb_doc.specs.declared.rewriting.OpenContainer.{OpenContainer}
use Rattle.jsonb_doc.specs.declared.rewriting.Writer.{Writer}

-- Holds if each key is below the next.
abbrev pub AreSortedKeys : List (List ℕ) → Type 0
AreSortedKeys [] = ⊤
AreSortedKeys (key ∷ ks) = IsBelowFirst key ks × AreSortedKeys ks

-- Holds if `ts` are the entries of a container of this kind and count, and `t` is its tree. The entries of an array
-- are its elements, those of an object its keys, as strings, and then its values.
abbrev pub Make : HeaderKind → ℕ → List Tree → Tree → Type 0
Make Scalar n ts t = ⊥
Make Array n ts t = (n ≡ length ts) × (t ≡ array (trees_of ts))
Make Object n ts t =
    (ps : List (List ℕ × Tree)) × (n ≡ length ps) × AreSortedKeys (keys_of ps)
    × (ts ≡ map text (keys_of ps) ++ values_of ps) × (t ≡ object (pairs_of ps))

-- Holds if a container of this tree exceeds the limits.
abbrev pub ExceedsLimits : Form → Tree → Type 0
ExceedsLimits form t = HasShortParts form t → ⊥

-- Holds if the buffer is `before` and then a container of tree `t`, written except for the trees that are coming: its
-- header, the words so far, room for the words of the coming trees, and the contents so far.
pub record IsOpen (form : Form) (before out : List ℕ) (at : OpenContainer) (coming : List Tree) (t : Tree) : Type 0 where
  pub kind : HeaderKind
  pub total : ℕ
  pub few : total < 2 ^ 29
  pub made : List Tree
  pub words : List ℕ
  pub contents : List ℕ
  pub room : List ℕ
  pub start_is : at.start ≡ length before
  pub word_is : at.word ≡ length before + 4 + length words
  pub joined : out ≡ before ++ (header (header_number kind) total ++ ((words ++ room) ++ contents))
  pub room_is : length room ≡ 4 * length coming
  pub held : AreEntries (number_reader form) (trees_of made) words contents
  pub makes : Make kind total (made ++ coming) t

-- The containers around one, the innermost first, each with the trees that come after it.
abbrev pub Around : Type 0
Around = List (OpenContainer × List Tree)

-- Holds if each of these containers is open at the entry for the one within it, and the outermost is the whole.
abbrev pub AreAround : Form → List ℕ → Around → Tree → Tree → Type 0
AreAround form out [] t whole = (out ≡ []) × (t ≡ whole)
AreAround form out (o ∷ os) t whole =
    (before : List ℕ) × (u : Tree) × IsOpen form before out o.0 (t ∷ o.1) u × AreAround form before os u whole

-- Holds if the writer's containers become the tree `whole` once the trees that are coming are written, to the innermost
-- container and to those around it.
pub record IsWriting (form : Form) (w : Writer) (coming : List Tree) (around : Around) (whole : Tree) : Type 0 where
  pub before : List ℕ
  pub t : Tree
  pub is_open : IsOpen form before w.out.items w.inner coming t
  pub are_around : AreAround form before around t whole
  pub within : w.is_overrun ≡ false

-- ---- numbers of bytes

-- The containers around one, the innermost first, each with the number of bytes that come after it.
abbrev pub Rooms : Type 0
Rooms = List (OpenContainer × ℕ)

-- Holds if a container from `start` to `end` is short enough for an entry, and so is each around it except the
-- outermost.
abbrev pub EndsWithin : ℕ → ℕ → Rooms → Type 0
EndsWithin start end [] = ⊤
EndsWithin start end (o ∷ os) = (end < start + 2 ^ 28) × EndsWithin o.0.start (end + o.1) os

-- Holds if the innermost container and those around it are short enough for entries once `coming` bytes are written.
abbrev pub HasRoom : Writer → ℕ → Rooms → Type 0
HasRoom w coming around = EndsWithin w.inner.start (length w.out.items + coming) around

-- The number of bytes of a header and of the words of its entries.
abbrev pub head_size : HeaderKind → ℕ → ℕ
head_size Object n = 4 + 8 * n
head_size _ n = 4 + 4 * n
