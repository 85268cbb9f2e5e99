-- Each stream made of the 560 sector writings of one disk is read as that disk: the claim of document 02, Req 14. proofs/Duplicating.antt proves it.
-- `Denibblized` and `Hands` of `nibblized` are the promises of `stream::denibblize` and `nibblize::nibblize`, word for word.
use Rattle.std.specs.Prelude.{◌≡◌, List, ◌∷◌, ◌++◌, ℕ, ◌+◌, ◌<◌, ◌≤◌, length, take, drop}
use Rattle.lists.specs.Fill.{Bytes}
use Rattle.std.specs.Prelude.{Ok, Err}
use Rattle.outcome.specs.declared.Refusal.TheVariants.{TrayShort}
use Rattle.outcome.specs.Outcome.{Outcome, Hands}
use Rattle.fields.specs.declared.Edition.TheVariants.{Sixteen}
use Rattle.stream.specs.Stream.{image, Denibblized}
use Rattle.nibblize.specs.Nibblize.{nibblized}
use Rattle.nibblize.specs.Layouts.{Piece, Layout, stream_of, length_of_parts, order_of, Spaced, Order, Covers, MadeOf}

-- a flat disk of 16 sectors a track
abbrev pub Flat : List ℕ → Type 0
Flat d = (length d ≡ 143360) × Bytes d

-- Req 14
pub record Duplicating : Type 0 where
  -- a stream so made unrolls to that disk
  pub image_is : (d s : List ℕ) → Flat d → MadeOf d s → image Sixteen s ≡ Ok d
  -- of the call: into enough lent space denibblize leaves that disk, and what stood behind it; into less it answers 12 and leaves all as it was
  pub denibblizes : (d s : List ℕ) → Flat d → MadeOf d s → (before after : List ℕ) (r : Outcome ℕ) → Denibblized Sixteen s before after r
      → 143360 ≤ length before → (r ≡ Ok 143360) × (after ≡ d ++ drop 143360 before)
  pub refuses : (d s : List ℕ) → Flat d → MadeOf d s → (before after : List ℕ) (r : Outcome ℕ) → Denibblized Sixteen s before after r
      → length before < 143360 → (r ≡ Err TrayShort) × (after ≡ before)
  -- the nibble writer's own stream is one of these, and so is what a call of nibblize wrote
  pub own : (d s : List ℕ) → Bytes d → nibblized d ≡ Ok s → MadeOf d s
  pub written : (d before after : List ℕ) (n : ℕ) → Bytes d → Hands (nibblized d) before after (Ok n) → MadeOf d (take n after)
  -- for each order of the 560 and all gaps free of D5h there is such a stream; its length is the sum of its parts
  pub orders : (d : List ℕ) (y : Layout) → Spaced y → Order (order_of y.pieces) → MadeOf d (stream_of d y)
  pub lengths : (d : List ℕ) (y : Layout) → length (stream_of d y) ≡ length_of_parts y.pieces + length y.behind
  -- .. and for each in which one of the 560 is then written again, at any place
  pub repeats : (xs ys : List Piece) (x : Piece) → x.number < 560 → Covers (order_of (xs ++ ys)) → Covers (order_of (xs ++ (x ∷ ys)))
