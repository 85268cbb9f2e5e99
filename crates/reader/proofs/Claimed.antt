-- What is promised of the reader's calls together holds. Assumes nothing.
use mathlib.Core.Path.{◌≡◌, refl, sym, ap, ◌∙◌}
use mathlib.Core.Bool.{Bool, true, false}
use mathlib.Core.List.{List, [], ◌∷◌, ◌++◌}
use Prim.Native.Nat.{ℕ, zero, suc, ◌+◌, ◌-◌, ◌/◌}
use lib.ListN.{length, get_or, drop}
use lib.Dec.{eqb, leb}
use Rattle.lists.specs.Fill.{Bytes}
use Rattle.lists.proofs.Split.{by_test}
use Rattle.std.specs.Prelude.{Ok, Err}
use Rattle.outcome.specs.declared.Refusal.TheVariants.{NotItsReturn}
use Rattle.outcome.specs.Outcome.{Outcome, ◌>>=◌, ◌>>◌, require}
use Rattle.outcome.proofs.Outcome.{refused_given}
use Rattle.files.specs.Contents.{File, Contents}
use Rattle.archive.specs.Reader.{size_in, entry_in, sound_entry, part_in, sound_data, entries_from, data_from, sound_first, opened}
use Rattle.archive.proofs.Reader.{opened_is}
use Rattle.reader.specs.Steps.{opened_with}
use Rattle.reader.specs.Claims.{ArchiveOf, Reading}
use Rattle.reader.proofs.Stepping.{steps, exact}

-- ---- 13 alone is refused
abbrev Only : {A : Type 0} → Outcome A → Type 0
Only (Err r) = r ≡ NotItsReturn
Only (Ok x) = Unit {0}

only_then : {A B : Type 0} (o : Outcome A) (f : A → B) → Only o → Only (o >>= λ x. Ok (f x))
only_then (Err r) f h = h
only_then (Ok x) f h = tt

only_tested : {A : Type 0} (t : Bool) (o : Outcome A) → Only o → Only (require t NotItsReturn >> o)
only_tested true o h = h
only_tested false o h = refl

mutual
  unfolding entries_from data_from

  entries_only : (n b : ℕ) (s : List ℕ) → Only (entries_from n b s)
  entries_only zero b s = tt
  entries_only (suc n) b s =
      only_tested (sound_entry n b s) _
      (by_test (eqb (size_in s) 0)
      (λ e. rw e (only_then (entries_from n (b + 1) (drop 256 s)) (λ fs. entry_in s [] ∷ fs) (entries_only n (b + 1) (drop 256 s))))
      (λ e. rw e (only_then (data_from n (b + 1) (size_in s) (drop 256 s)) (λ r. entry_in s r.0 ∷ r.1) (data_only n (b + 1) (size_in s) (drop 256 s)))))

  data_only : (n b size : ℕ) (s : List ℕ) → Only (data_from n b size s)
  data_only zero b size s = refl
  data_only (suc n) b size s =
      only_tested (sound_data b size s) _
      (by_test (leb size 254)
      (λ e. rw e (only_then {B = List ℕ × List File} (entries_from n (b + 1) (drop 256 s)) (λ fs. (part_in size s, fs)) (entries_only n (b + 1) (drop 256 s))))
      (λ e.
      rw e
      (only_then {B = List ℕ × List File} (data_from n (b + 1) (size - 254) (drop 256 s)) (λ r. (part_in size s ++ r.0, r.1))
      (data_only n (b + 1) (size - 254) (drop 256 s)))))

opened_only : (a : List ℕ) → Only (opened a)
unfolding opened
opened_only a =
    let n = length a / 256 - 1 in
    only_tested (sound_first n a) _
    (only_then (entries_from n 1 (drop 256 a)) (λ fs. record { volume = get_or a 0 0; files = fs }) (entries_only n 1 (drop 256 a)))

-- ---- so it is refused where nothing is given
no_contents : (a : List ℕ) (o : Outcome Contents) → opened a ≡ o → opened_with o ≡ Err NotItsReturn → Bytes a → (c : Contents) → ArchiveOf a c → ⊥
no_contents a (Err r) e z h c i = refused_given (sym e ∙ (opened_is a c h).1 i)
no_contents a (Ok x) e z h c i = refused_given (sym z)

no_archive : (a : List ℕ) (o : Outcome Contents) → opened a ≡ o → Only o → Bytes a → ((c : Contents) → ArchiveOf a c → ⊥) → opened_with o ≡ Err NotItsReturn
no_archive a (Err r) e q h none = ap Err q
no_archive a (Ok x) e q h none = absurd (none x ((opened_is a x h).0 e))

pub reading : Reading
reading =
    record {
      opens = λ a c h. opened_is a c h;
      refuses = λ a h. (λ z. no_contents a (opened a) refl z h, λ none. no_archive a (opened a) refl (opened_only a) h none);
      steps = steps;
      exact = exact;
    }
