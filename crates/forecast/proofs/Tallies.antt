-- The lengths tried one after the other: the sums so far, a mark for each, and what is still to come. Assumes nothing.
use mathlib.Core.Path.{◌≡◌, refl, sym, ap, ◌∙◌}
use mathlib.Core.Bool.{Bool, true, false, cond}
use mathlib.Core.List.{List, [], ◌∷◌, ◌++◌, append_assoc, append-nil}
use Prim.Native.Nat.{ℕ, ◌+◌, ◌*◌, ◌-◌, ◌<◌, ◌≤◌, ◌^◌, min}
use native.Mathlib.Nat.{add-zero, zero-add, add_assoc}
use native.Mathlib.Numerals.{add-one}
use native.Mathlib.Omega.{arith}
use lib.ListN.{length, get_or, take, drop, set, length-append, drop_of_length-le}
use lib.Seq.{drop-cons, drop-append-add, length-take-le}
use borrow.Author.Tests.{lt-leb, not-true, not-false}
use borrow.Author.Rules.{rules}
use Rattle.lists.specs.Fill.{put}
use Rattle.lists.proofs.Split.{by_lt}
use Rattle.lists.proofs.Put.{Put, length_put, put_none, put_one, put_is, put_front, put_3}
use Rattle.outcome.specs.declared.Refusal.TheVariants.{NoSpace}
use Rattle.disk.specs.Disk.{start}
use Rattle.disk.specs.Vtoc.{vtoc}
use Rattle.amend.specs.Save.{data_for, lists_for}
use Rattle.allot.proofs.Working.{table_is}
use Rattle.forecast.specs.declared.Needs.{Needs}
use Rattle.forecast.specs.Forecast.{Forecast, no_saves, goes_on, ends_in21, tried, ahead, numbers_in}
use Rattle.forecast.specs.Steps.{HasTable, Barred, Tried, with_save, Room, Plan, Foreseen}
use Rattle.forecast.proofs.Ahead.{ahead_refused, ahead_given}
use Rattle.forecast.proofs.Longer.{tried_longer}

-- ---- the sums
module _ (s : Needs) (k : ℕ) (goes : Bool) where
  pub add_not : (m : ℕ) → m ≡ min k s.least → goes ≡ false
      → record { sectors = s.sectors; lists = s.lists; lines = s.lines; left = s.left; least = m } ≡ with_save s k goes
  add_not m e z = rw (z, e) refl

  module _ (r : Room s k goes) (z : goes ≡ true) where
    pub add_some : 0 < s.left
    add_some = (r.when z).0

    module _ (m : ℕ) (e : m ≡ data_for k) where
      pub add_sectors : s.sectors + m < 2 ^ 64
      add_sectors = let a = r.sectors in let b = (r.when z).1 in omega arith

      module _ (l : ℕ) (f : l ≡ lists_for m) where
        pub add_lists : s.lists + l < 2 ^ 64
        add_lists = let a = r.lists in let b = (r.when z).1 in omega arith

        pub add_is : record { sectors = s.sectors + m; lists = s.lists + l; lines = s.lines + 1; left = s.left - 1; least = 32769 } ≡ with_save s k goes
        add_is =
            rw z
            (λ i. record { sectors = s.sectors + e i; lists = s.lists + (f ∙ ap lists_for e) i; lines = s.lines + 1; left = s.left - 1; least = 32769 })

    pub add_lines : s.lines + 1 < 2 ^ 64
    add_lines = let a = r.lines in omega arith

pub ruleset adds = (add_not, add_some, add_sectors, add_lists, add_is, add_lines, not-true, not-false, rules)

pub sums_are : (a b c : ℕ) (d : List ℕ) → 3 ≤ length d → set (set (set d 0 a) 1 b) 2 c ≡ put 0 (a ∷ b ∷ c ∷ []) d
sums_are a b c d h = put_3 0 a b c d (omega arith)

pub sums_room : (d : List ℕ) → 3 ≤ length d → 1 < length d
sums_room d h = omega arith

pub ruleset sums = (sums_are, sums_room, rules)

-- ---- what was needed so far, in front of what is still to come
abbrev joined : Needs → List ℕ → Forecast → Forecast
joined s ms f =
    record {
      data_sectors = s.sectors + f.data_sectors;
      list_sectors = s.lists + f.list_sectors;
      entry_lines = s.lines + f.entry_lines;
      marks = ms ++ f.marks;
    }

joined_first : (left : ℕ) (f : Forecast) → f ≡ joined (record { sectors = 0; lists = 0; lines = 0; left = left; least = 32769 }) [] f
joined_first left f =
    let a = sym (zero-add f.data_sectors) in
    let b = sym (zero-add f.list_sectors) in
    let c = sym (zero-add f.entry_lines) in
    λ i. record { data_sectors = a i; list_sectors = b i; entry_lines = c i; marks = f.marks }

joined_goes : (s : Needs) (ms : List ℕ) (k : ℕ) (f : Forecast) → joined s ms (goes_on k f) ≡ joined (with_save s k true) (ms ++ (0 ∷ [])) f
joined_goes s ms k f =
    let a = sym (add_assoc s.sectors (data_for k) f.data_sectors) in
    let b = sym (add_assoc s.lists (lists_for (data_for k)) f.list_sectors) in
    let c = sym (add_assoc s.lines 1 f.entry_lines) in
    let e = sym (append_assoc ms (0 ∷ []) f.marks) in
    λ i. record { data_sectors = a i; list_sectors = b i; entry_lines = c i; marks = e i }

joined_ends : (s : Needs) (ms : List ℕ) (f : Forecast) → joined s ms (ends_in21 f) ≡ joined s (ms ++ (1 ∷ [])) f
joined_ends s ms f =
    let e = sym (append_assoc ms (1 ∷ []) f.marks) in
    λ i. record { data_sectors = s.sectors + f.data_sectors; list_sectors = s.lists + f.list_sectors; entry_lines = s.lines + f.entry_lines; marks = e i }

joined_last : (s : Needs) (ms : List ℕ) → numbers_in (joined s ms no_saves) ≡ (s.sectors ∷ s.lists ∷ s.lines ∷ []) ++ ms
joined_last s ms =
    let a = add-zero s.sectors in
    let b = add-zero s.lists in
    let c = add-zero s.lines in
    let e = append-nil ms in
    λ i. a i ∷ b i ∷ c i ∷ e i

-- ---- after i lengths
pub record Foreseeing (T₀ : List ℕ) (left : ℕ) (ks N₀ : List ℕ) (i : ℕ) (s : Needs) (T N : List ℕ) : Type 0 where
  pub count : i ≤ length ks
  pub few : length ks ≤ 64
  pub wide : 3 + length ks ≤ length N₀
  pub long : length T ≡ 256
  pub same : length T ≡ length T₀
  pub sectors : s.sectors ≤ 129 * i
  pub lists : s.lists ≤ 2 * i
  pub lines : s.lines ≤ i
  pub marks : List ℕ
  pub many : length marks ≡ i
  pub puts : Put 3 marks N₀ N
  pub barred : Barred T s.left s.least
  pub is : (d : List ℕ) → HasTable T₀ d → (e : List ℕ) × HasTable T e × (ahead 16 left d ks ≡ joined s marks (ahead 16 s.left e (drop i ks)))

-- over 32,768 bytes
barred_first : (T : List ℕ) (left : ℕ) → Barred T left 32769
unfolding tried
barred_first T left = record { most = omega arith; is = λ k h d t. rw (lt-leb k 32768 (omega arith)) refl }

pub foresee_none : (T : List ℕ) (left : ℕ) (ks N : List ℕ) → Plan T ks N
    → Foreseeing T left ks N 0 (record { sectors = 0; lists = 0; lines = 0; left = left; least = 32769 }) T N
foresee_none T left ks N p =
    record {
      count = omega arith;
      few = p.few;
      wide = p.wide;
      long = p.long;
      same = refl;
      sectors = omega arith;
      lists = omega arith;
      lines = omega arith;
      marks = [];
      many = refl;
      puts = put_none 3 N;
      barred = barred_first T left;
      is = λ d h. (d, h, joined_first left (ahead 16 left d ks));
    }

-- the disk with the table after
has_after : (T T' d : List ℕ) → HasTable T d → length T' ≡ 256 → HasTable T' (put (start 16 vtoc) T' d)
has_after T T' d h l =
    record {
      size = length_put (start 16 vtoc) T' d (let z = h.size in omega arith) ∙ h.size;
      table = sym (table_is 16 (omega arith) d h.size T' l);
    }

module _ (T₀ : List ℕ) (left : ℕ) (ks N₀ : List ℕ) (i : ℕ) (s : Needs) (T N : List ℕ) (w : Foreseeing T₀ left ks N₀ i s T N) where
  pub foresee_table : length T ≡ 256
  foresee_table = w.long

  pub foresee_barred : Barred T s.left s.least
  foresee_barred = w.barred

  pub foresee_wide : i < length ks → 3 + i < length N
  foresee_wide h = let a = w.wide in let b = w.puts.long in omega arith

  pub foresee_three : 3 ≤ length N
  foresee_three = let a = w.wide in let b = w.puts.long in omega arith

  abbrev k : ℕ
  k = get_or ks i 0

  drop_next : i < length ks → drop i ks ≡ k ∷ drop (i + 1) ks
  drop_next h = drop-cons ks i 0 h ∙ ap (λ (n : ℕ). k ∷ drop n ks) (sym (add-one i))

  module _ (T' : List ℕ) (b : Bool) (t : Tried s.left k T T' b) where
    pub foresee_room : i < length ks → Room s k b
    foresee_room h =
        record {
          sectors = let x = w.sectors in let y = w.few in omega arith;
          lists = let x = w.lists in let y = w.few in omega arith;
          lines = let x = w.lines in let y = w.few in omega arith;
          when = λ z. ((t.goes z).0, (t.goes z).1);
        }

    -- the next length on a disk
    next : (c : Bool) → b ≡ c → i < length ks → (d : List ℕ) → HasTable T₀ d
        → (e : List ℕ) × HasTable T' e × (ahead 16 left d ks ≡ joined (with_save s k c) (w.marks ++ (cond c 0 1 ∷ [])) (ahead 16 (with_save s k c).left e (drop (i + 1) ks)))
    next true z h d o =
        let u = w.is d o in
        let e : List ℕ = put (start 16 vtoc) T' u.0 in
        let q = (t.goes z).2 u.0 u.1 in (
          e,
          has_after T T' u.0 u.1 t.long,
          u.2 ∙ ap (λ (l : List ℕ). joined s w.marks (ahead 16 s.left u.0 l)) (drop_next h)
              ∙ ap (joined s w.marks) (ahead_given 16 s.left u.0 k (drop (i + 1) ks) e q)
              ∙ joined_goes s w.marks k (ahead 16 (s.left - 1) e (drop (i + 1) ks)),
        )
    next false z h d o =
        let u = w.is d o in
        let q = t.ends z in (
          u.0,
          record { size = u.1.size; table = q.0 ∙ u.1.table },
          u.2 ∙ ap (λ (l : List ℕ). joined s w.marks (ahead 16 s.left u.0 l)) (drop_next h)
              ∙ ap (joined s w.marks) (ahead_refused 16 s.left u.0 k (drop (i + 1) ks) NoSpace (q.1 u.0 u.1))
              ∙ joined_ends s w.marks (ahead 16 s.left u.0 (drop (i + 1) ks)),
        )

    -- what is known to end in 21
    bars : (c : Bool) → b ≡ c → Barred T' (with_save s k c).left (with_save s k c).least
    bars true z = barred_first T' (s.left - 1)
    bars false z =
        let q = t.ends z in
        let m = w.barred.most in
        record {
          most = omega arith;
          is = λ j h d o.
              let u : HasTable T d = record { size = o.size; table = sym q.0 ∙ o.table } in
              by_lt j s.least (λ l. tried_longer 16 s.left k j (omega arith) d (q.1 d u)) (λ l. w.barred.is j l d u);
        }

    sums_small : (c : Bool) → b ≡ c → ((with_save s k c).sectors ≤ 129 * (i + 1)) × ((with_save s k c).lists ≤ 2 * (i + 1)) × ((with_save s k c).lines ≤ i + 1)
    sums_small true z =
        let x = w.sectors in
        let y = w.lists in
        let v = w.lines in
        let g = (t.goes z).1 in
        (omega arith, omega arith, omega arith)
    sums_small false z =
        let x = w.sectors in
        let y = w.lists in
        let v = w.lines in
        (omega arith, omega arith, omega arith)

    pub foresee_more : (v : ℕ) (s' : Needs) → v ≡ cond b 0 1 → s' ≡ with_save s k b → i < length ks
        → Foreseeing T₀ left ks N₀ (i + 1) s' T' (set N (3 + i) v)
    foresee_more v s' e f h =
        let m = w.many in
        let x = w.wide in
        let y = sums_small b refl in
        let o : Put 3 (w.marks ++ (v ∷ [])) N₀ (set N (3 + i) v) = put_one v w.puts (omega arith) (omega arith) in
        rw (f, e)
        (record {
          count = omega arith;
          few = w.few;
          wide = w.wide;
          long = t.long;
          same = t.long ∙ sym w.long ∙ w.same;
          sectors = y.0;
          lists = y.1;
          lines = y.2;
          marks = w.marks ++ (cond b 0 1 ∷ []);
          many = length-append w.marks (cond b 0 1 ∷ []) ∙ ap (λ (n : ℕ). n + 1) m;
          puts = rw e at o;
          barred = bars b refl;
          is = next b refl h;
        })

  -- ---- all of them
  module _ (N' : List ℕ) (e : N' ≡ put 0 (s.sectors ∷ s.lists ∷ s.lines ∷ []) N) where
    whole : Put 0 (s.sectors ∷ s.lists ∷ s.lines ∷ []) N N'
    whole = put_is e (let a = foresee_three in omega arith)

    pub foresee_same : length N' ≡ length N₀
    foresee_same = whole.long ∙ w.puts.long

    behind : drop 3 N ≡ w.marks ++ drop (3 + length w.marks) N₀
    unfolding put
    behind =
        let a = w.wide in
        let l : length (take 3 N₀) ≡ 3 = length-take-le 3 N₀ (omega arith) in
        ap (drop 3) w.puts.is ∙ ap (λ (n : ℕ). drop n (take 3 N₀ ++ (w.marks ++ drop (3 + length w.marks) N₀))) (sym (add-zero (length (take 3 N₀)) ∙ l))
        ∙ drop-append-add (take 3 N₀) (w.marks ++ drop (3 + length w.marks) N₀) 0

    pub foresee_done : length ks ≤ i → Foreseen T₀ left ks N₀ N'
    unfolding ahead
    foresee_done h =
        let c = w.count in
        let z : i ≡ length ks = omega arith in
        let y : length w.marks ≡ length ks = w.many ∙ z in
        record {
          is = λ d o.
              let u = w.is d o in
              let f : ahead 16 left d ks ≡ joined s w.marks no_saves = u.2 ∙ ap (λ (l : List ℕ). joined s w.marks (ahead 16 s.left u.0 l)) (drop_of_length-le ks {i = i} h) in
              put_front whole ∙ ap (λ (l : List ℕ). (s.sectors ∷ s.lists ∷ s.lines ∷ []) ++ l) (behind ∙ ap (λ (n : ℕ). w.marks ++ drop (3 + n) N₀) y)
              ∙ sym (append_assoc (s.sectors ∷ s.lists ∷ s.lines ∷ []) w.marks (drop (3 + length ks) N₀))
              ∙ ap (λ (l : List ℕ). l ++ drop (3 + length ks) N₀) (sym (ap numbers_in f ∙ joined_last s w.marks));
        }

pub ruleset foresees = (foresee_none, foresee_table, foresee_barred, foresee_wide, foresee_three, foresee_room, foresee_more, foresee_same, foresee_done, rules)
