-- The claim of Req 14: each stream made of the 560 sector writings of one disk unrolls to that disk. Assumes nothing.
use mathlib.Core.Path.{◌≡◌, refl, ◌∙◌}
use mathlib.Core.List.{List, ◌∷◌, ◌++◌, map-append}
use Prim.Native.Nat.{ℕ, ◌<◌}
use native.Mathlib.Omega.{arith}
use borrow.Author.Tests.{lt-leb}
use lib.ListN.{length}
use Rattle.lists.specs.Every
use Rattle.lists.proofs.Among.{among_between, among_all}
use Rattle.lists.proofs.Chunks.{every_append, split_every}
use Rattle.std.specs.Prelude.{Err}
use Rattle.outcome.specs.declared.Refusal.TheVariants.{TrayShort}
use Rattle.outcome.specs.Outcome.{Outcome}
use Rattle.fields.specs.declared.Edition.TheVariants.{Sixteen}
use Rattle.stream.specs.Stream.{Denibblized}
use Rattle.nibblize.specs.Layouts.{Piece, order_of, Order, Covers, MadeOf}
use Rattle.nibblize.specs.Claims.{Flat, Duplicating}
use Rattle.nibblize.proofs.Unrolls.{length_laid, unrolls_made}
use Rattle.nibblize.proofs.Written.{nibblized_made, made_denibblizes, written_made}

-- too little space is the one refusal
made_refused : (d s : List ℕ) → Flat d → MadeOf d s → (before after : List ℕ) (r : Outcome ℕ) → Denibblized Sixteen s before after r
    → length before < 143360 → (r ≡ Err TrayShort) × (after ≡ before)
made_refused d s (l, b) m before after r h short =
    let t = lt-leb (length d) (length before) (omega arith) in
    (h.answer ∙ rw (unrolls_made d s (l, b) m, t) refl, h.left ∙ rw (unrolls_made d s (l, b) m, t) refl)

-- 560 different numbers below 560 are all of them
order_covers : (ks : List ℕ) → Order ks → Covers ks
order_covers ks o = record { each = among_all 560 ks o.apart o.numbers o.all; numbers = o.numbers }

-- one written again takes none away
again : (ks ls : List ℕ) (k : ℕ) → k < 560 → Covers (ks ++ ls) → Covers (ks ++ (k ∷ ls))
again ks ls k h c =
    let s = split_every ks c.numbers in
    record { each = λ j i. among_between j k ks ls (c.each j i); numbers = every_append s.0 (Every.more h s.1) }

repeated : (xs ys : List Piece) (x : Piece) → x.number < 560 → Covers (order_of (xs ++ ys)) → Covers (order_of (xs ++ (x ∷ ys)))
repeated xs ys x h c =
    rw (map-append (λ (p : Piece). p.number) xs (x ∷ ys)) (again (order_of xs) (order_of ys) x.number h (rw (map-append (λ (p : Piece). p.number) xs ys) at c))

pub duplicating : Duplicating
duplicating =
    record {
      image_is = unrolls_made;
      denibblizes = made_denibblizes;
      refuses = made_refused;
      own = nibblized_made;
      written = written_made;
      orders = λ d y g o. (y, g, order_covers (order_of y.pieces) o, refl);
      lengths = λ d y. length_laid y.volume d y.pieces y.behind;
      repeats = repeated;
    }
