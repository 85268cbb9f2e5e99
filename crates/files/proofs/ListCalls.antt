-- The track/sector lists of an entry, handed over. Assumes nothing.
use mathlib.Core.Path.{◌≡◌, refl, sym, ap, subst, ◌∙◌}
use mathlib.Core.Logic.{◌⊎◌, inl, inr, ⊎_elim}
use mathlib.Core.Bool.{Bool, true, false}
use mathlib.Core.List.{List, [], ◌∷◌, ◌++◌, flat_map}
use Prim.Native.Nat.{ℕ, ◌+◌, ◌*◌, ◌^◌, ◌<◌, ◌≤◌}
use native.Mathlib.Omega.{arith}
use lib.ListN.{length, length-append}
use lib.Dec.{eqb}
use borrow.Author.Tests.{eqb-true}
use borrow.Author.Rules.{rules}
use Rattle.lists.specs.Fill.{placed}
use Rattle.lists.proofs.Split.{by_test}
use Rattle.lists.proofs.Put.{Put, put_none, put_more, put_front, placed_put}
use Rattle.std.specs.Prelude.{Ok, Err, Option, Some, None}
use Rattle.outcome.specs.declared.Refusal.{Refusal}
use Rattle.outcome.specs.declared.Refusal.TheVariants.{TrayShort}
use Rattle.outcome.specs.Outcome.{Outcome, ◌>>=◌, each, left_by, Hands}
use Rattle.outcome.proofs.Outcome.{each_cons, some_none, hands_refused, hands_short, hands_over_lem}
use Rattle.disk.specs.declared.Place.{Place}
use Rattle.disk.specs.Disk.{per_of, byte_of, link_of}
use Rattle.disk.specs.Chain.{walk}
use Rattle.disk.proofs.Steps.{made, rest, joins, joined_is, rest_start, rest_within, rest_last, rest_on, rest_room}
use Rattle.catalog.specs.Catalog.{Entry, catalog}
use Rattle.catalog.specs.Listing.{Ready}
use Rattle.files.specs.declared.Choice.{Choice}
use Rattle.files.specs.declared.Thread.{Thread}
use Rattle.files.specs.declared.Totals.{Totals}
use Rattle.files.specs.declared.Wanted.TheVariants.{Numbered}
use Rattle.files.specs.Contents.{File, Contents, contents, place_bytes, sound_list, next_list, list_walk, file_of}
use Rattle.files.specs.Totals.{picked, totals}
use Rattle.files.specs.Chosen.{chosen_in, ChoiceOf, walk_places, lists_from, lists_of_number}
use Rattle.files.specs.Copies.{Kept}
use Rattle.files.proofs.Calls.{total_refused, total_given}
use Rattle.files.proofs.Datas.{thread}
use Rattle.files.proofs.PairCalls.{length_two}
use Rattle.files.proofs.Choices.{file_followed, taken, passed_by, num_past, chosen_at, chosen_list}

-- ---- the lists, written one behind the other
module _ (n : ℕ) (d : List ℕ) where
  abbrev join_places : List ℕ → Place → List ℕ
  join_places = joins place_bytes

  made_places : (o : Outcome (List Place)) → made join_places [] o ≡ (o >>= λ ls. Ok (flat_map place_bytes ls))
  made_places (Err r) = refl
  made_places (Ok ls) = ap Ok (joined_is place_bytes [] ls)

  module _ (begin : Place) where
    -- k lists are written, w is the place for the next, and p is that list
    pub record Placing (most k w : ℕ) (p : Place) (o₀ o : List ℕ) : Type 0 where
      pub budget : most ≡ 35 * n + 1
      pub count : k ≤ most
      pub done : List ℕ
      pub whole : List ℕ
      pub total : walk_places n d begin ≡ Ok whole
      pub fits : length whole ≤ length o₀
      pub is : rest join_places n (sound_list n d) (next_list n d) (35 * n + 1) k done p ≡ Ok whole
      pub place : w ≡ length done
      pub puts : Put 0 done o₀ o

    pub place_none : (most : ℕ) (o : List ℕ) → most ≡ 35 * n + 1 → Ready (walk_places n d begin) o → Placing most 0 0 begin o o
    unfolding walk_places list_walk
    place_none most o e r =
        record {
          budget = e;
          count = omega arith;
          done = [];
          whole = r.whole;
          total = r.is;
          fits = r.fits;
          is =
              rest_start join_places n (sound_list n d) (next_list n d) (35 * n + 1) [] begin
              ∙ made_places (walk n (sound_list n d) (next_list n d) (35 * n + 1) [] begin) ∙ r.is;
          place = refl;
          puts = put_none 0 o;
        }

    module _ (most k w : ℕ) (p : Place) (o₀ o : List ℕ) (c : Placing most k w p o₀ o) where
      room : length c.done + 2 ≤ length c.whole
      room = rest_room place_bytes n (sound_list n d) (next_list n d) (35 * n + 1) k c.done p c.whole c.is

      pub place_sum : length o₀ * 1 < 2 ^ 63 → w + 2 < 2 ^ 64
      place_sum h = omega (arith, room, c.place, c.fits)

      -- the budget is never used up
      pub place_full : most ≤ k → o ≡ left_by (walk_places n d begin) o₀
      place_full h =
          let l = rest_within join_places n (sound_list n d) (next_list n d) (35 * n + 1) k c.done p c.whole c.is in
          absurd (omega (arith, c.budget))

      module _ (o' : List ℕ) (u : o' ≡ placed w (place_bytes p) o) where
        more : Put 0 (c.done ++ place_bytes p) o₀ o'
        more =
            let q : Put w (place_bytes p) o o' = placed_put u (omega (arith, room, c.place, c.fits, c.puts.long)) in
            put_more c.puts q (omega (arith, c.place)) (omega (arith, room, c.place, c.fits))

        pub place_long : length o' ≡ length o₀
        place_long = more.long

        module _ (l : Bool) (e : l ≡ eqb (byte_of n d p 1) 0) where
          pub place_last : l ≡ true → o' ≡ left_by (walk_places n d begin) o₀
          unfolding next_list
          place_last t =
              let q : c.whole ≡ c.done ++ place_bytes p =
              rest_last join_places n (sound_list n d) (next_list n d) (35 * n + 1) k c.done p c.whole c.is (rw (← e, t) refl) in
              rw (c.total, q) (put_front more)

          pub place_more : l ≡ false → (a : Place) → a ≡ link_of n d p → k < most → Placing most (k + 1) (w + 2) a o₀ o'
          unfolding next_list
          place_more t a z h =
              record {
                budget = c.budget;
                count = omega arith;
                done = c.done ++ place_bytes p;
                whole = c.whole;
                total = c.total;
                fits = c.fits;
                is = rest_on join_places n (sound_list n d) (next_list n d) (35 * n + 1) k c.done p c.whole c.is a (rw (← e, t, z) refl);
                place = rw length-append (omega (arith, c.place));
                puts = more;
              }

pub ruleset placings = (place_none, place_sum, place_full, place_long, place_last, place_more, rules)

-- ---- the lists of a file: h is what they come to
module _ (n : ℕ) (d : List ℕ) (p : Place) (h : Thread) (f : Kept n d p h) (o : List ℕ) where
  gives : walk_places n d p ≡ Ok (flat_map place_bytes f.at.ls)
  unfolding walk_places
  gives = rw f.at.is refl

  long : length (flat_map place_bytes f.at.ls) ≡ 2 * h.lists
  long = length_two f.at.ls ∙ rw (thread n d p 0 h f o) refl

  pub lists_short : length o < 2 * h.lists → Hands (walk_places n d p) o o (Err TrayShort)
  lists_short l = hands_short (walk_places n d p) o _ gives (rw long l) (Err TrayShort) refl

  pub lists_ready : 2 * h.lists ≤ length o → Ready (walk_places n d p) o
  lists_ready l = record { whole = flat_map place_bytes f.at.ls; is = gives; fits = rw long l }

  pub lists_done : (o' : List ℕ) → 2 * h.lists ≤ length o → o' ≡ left_by (walk_places n d p) o → Hands (walk_places n d p) o o' (Ok (2 * h.lists))
  lists_done o' l a = hands_over_lem (walk_places n d p) o o' _ gives (rw long l) (a ∙ rw gives refl) (Ok (2 * h.lists)) (rw long refl)

pub ruleset listings = (lists_short, lists_ready, lists_done, rules)

-- ---- by number: the lists of the entry that the pass chose
module _ (per : ℕ) (d : List ℕ) (k : ℕ) where
  abbrev Listed : Option Choice → Option Choice → Outcome (List ℕ) → Type 0
  Listed c₀ c w =
      ((c ≡ c₀) × (w ≡ Ok []))
      ⊎ ((e : Entry) × (f : File) × (file_of per d e ≡ Ok f) × ChoiceOf per d e c × (w ≡ walk_places per d e.list))

  listed : (es : List Entry) (fs : List File) (c : Option Choice) (j : ℕ) → each (file_of per d) es ≡ Ok fs
      → Listed c (chosen_in per d (picked (Numbered k)) c j es) (lists_from per d k j es)
  unfolding chosen_in lists_from each
  listed [] fs c j h = inl (refl, refl)
  listed (e ∷ es) fs c j h =
      let w = each_cons (file_of per d) e es fs h in
      let f = file_followed per d (picked (Numbered k)) e w.0 w.2 in
      by_test (eqb j k)
      (λ b.
      let q = eqb-true j k b in
      inr (e, w.0, w.2, (f.0, f.1, taken per d (picked (Numbered k)) c j e es f.0 f.1 b ∙ num_past per d k es w.1 _ (j + 1) w.3 (omega arith)), rw b refl))
      (λ b.
      let p = passed_by per d (picked (Numbered k)) c j e es f.0 f.1 b in
      ⊎_elim (λ i. inl (p ∙ i.0, rw b i.1)) (λ i. inr (i.0, i.1, i.2, (i.3.0, i.3.1, p ∙ i.3.2), rw b i.4)) (listed es w.1 c (j + 1) w.3))

  module _ (o : List ℕ) where
    pub number_refused : (r : Outcome ℕ) (e : Refusal) → r ≡ Err e → Err e ≡ totals per d (picked (Numbered k)) → Hands (lists_of_number per d k) o o r
    unfolding lists_of_number
    number_refused r e q h = hands_refused (lists_of_number per d k) o e (rw (total_refused per d (picked (Numbered k)) e h) refl) r q

    module _ (t : Totals) (u : Ok t ≡ totals per d (picked (Numbered k))) where
      lists_of : (c : Contents) → contents per d ≡ Ok c → (es : List Entry) → catalog per d ≡ Ok es → lists_of_number per d k ≡ lists_from per d k 0 es
      unfolding lists_of_number
      lists_of c h es g = rw (h, g) refl

      which_lists : Listed None t.choice (lists_of_number per d k)
      which_lists =
          let v = total_given per d (picked (Numbered k)) t u in
          let s : t.choice ≡ chosen_in per d (picked (Numbered k)) None 0 v.2.es = ap (λ (y : Totals). y.choice) v.2.is in
          let l = lists_of v.0 v.1 v.2.es v.2.catalog in
          ⊎_elim (λ i. inl (s ∙ i.0, l ∙ i.1)) (λ i. inr (i.0, i.1, i.2, (i.3.0, i.3.1, s ∙ i.3.2), l ∙ i.4)) (listed v.2.es v.0.files None 0 v.2.files)

      none_listed : t.choice ≡ None → Listed None t.choice (lists_of_number per d k) → lists_of_number per d k ≡ Ok []
      none_listed n (inl i) = i.1
      none_listed n (inr i) = absurd (some_none (sym i.3.2 ∙ n))

      pub number_none : t.choice ≡ None → Hands (lists_of_number per d k) o o (Ok 0)
      number_none n = hands_over_lem (lists_of_number per d k) o o [] (none_listed n which_lists) (omega arith) refl (Ok 0) refl

      module _ (c : Choice) (y : t.choice ≡ Some c) where
        at_listed : Listed None t.choice (lists_of_number per d k) → Kept per d c.list c.thread
        at_listed (inl i) = absurd (some_none (sym y ∙ i.0))
        at_listed (inr i) = let v = total_given per d (picked (Numbered k)) t u in chosen_at per d v.2.es v.2.catalog i.0 i.1 i.2 c (i.3.0, i.3.1, sym y ∙ i.3.2)

        walk_listed_lem : Listed None t.choice (lists_of_number per d k) → walk_places per d c.list ≡ lists_of_number per d k
        walk_listed_lem (inl i) = absurd (some_none (sym y ∙ i.0))
        walk_listed_lem (inr i) =
            let v = total_given per d (picked (Numbered k)) t u in
            ap (walk_places per d) (chosen_list per d v.2.es v.2.catalog i.0 i.1 i.2 c (i.3.0, i.3.1, sym y ∙ i.3.2)) ∙ sym i.4

        pub number_at : Kept per d c.list c.thread
        number_at = at_listed which_lists

        pub number_done : (o' : List ℕ) (r : Outcome ℕ) → Hands (walk_places per d c.list) o o' r → Hands (lists_of_number per d k) o o' r
        number_done o' r h = subst (λ (w : Outcome (List ℕ)). Hands w o o' r) (walk_listed_lem which_lists) h

-- by the disk's own size
pub lists_per : (d o o' : List ℕ) (r : Outcome ℕ) (k n : ℕ) → n ≡ per_of d → Hands (lists_of_number n d k) o o' r → Hands (lists_of_number (per_of d) d k) o o' r
lists_per d o o' r k n e q = rw e at q

pub ruleset list_calls = (lists_per, number_none, number_at, number_done, rules)
