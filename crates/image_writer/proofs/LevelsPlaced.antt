-- The pages of a level, placed while its keys come.
use Rattle.std.proofs.Common.{◌≡◌, ℕ, zero, suc, ◌+◌, ◌≤◌, ◌<◌, List, [], ◌∷◌, ◌++◌, length, take, drop, get_or, Option}
use Rattle.std.proofs.Common.{None, Result, Ok, Err, OnOk, IsErr, sym, ap, subst, ◌∙◌, arith, append_assoc}
use Rattle.std.proofs.Common.{take-append-drop}
use Rattle.std.proofs.lemmas.List.{length-append, length-take, length-map, take_more, take_all, get_or-map}
use Rattle.store_model.specs.Paths.{key_cmp}
use Rattle.store_model.specs.Draws.{Draw}
use Rattle.store_model.specs.Pairs.{Pair, IsPair, IsPairs}
use Rattle.store_model.specs.Pages.{Page, level_pages}
use Rattle.store_model.proofs.ListsLemmas.{all_front, rising_front, rising_from_is_sorted, is_sorted_from_rising}
use Rattle.disk_model.specs.DiskState.{DiskState}
use Rattle.gate_journal.proofs.Calls.{AreCalls-fault}
use Rattle.gate_journal.proofs.Stages.{no_claim}
use Rattle.layout_scratch.proofs.LevelPages.{level_pages-none}
use Rattle.rising_pages.specs.declared.raised.RaisedKey.{RaisedKey}
use Rattle.rising_pages.specs.Ends.{all_but_last, last_of, list_of}
use Rattle.rising_pages.specs.OpenPages.{open_page, closed_pages, HasCome}
use Rattle.rising_pages.specs.Raised.{AreRaised, key_pair, key_pairs, KeyComes}
use Rattle.rising_pages.proofs.Ends.{ends_whole}
use Rattle.rising_pages.proofs.OpenPages.{closed_stay}
use Rattle.image_writer.specs.Placing.{ArePlaced, Places}

-- no key, no page
pub open_none : (d : Draw) (level : ℕ) → open_page d [] level ≡ None
unfolding last_of
open_none d level = ap last_of (level_pages-none d level)

pub closed_none : (d : Draw) (level : ℕ) → closed_pages d [] level ≡ []
unfolding all_but_last
closed_none d level = ap all_but_last (level_pages-none d level)

-- the first pairs of a list of pairs are one
pub first_pairs : (s t : List Pair) → IsPairs (s ++ t) → IsPairs s
first_pairs s t pairs = record {
  sorted = is_sorted_from_rising key_cmp s (rising_front _ s t (rising_from_is_sorted key_cmp (s ++ t) pairs.sorted));
  pairs = all_front IsPair s t pairs.pairs;
}

level_at : (d : Draw) (keys : List RaisedKey) (k : ℕ) (key : RaisedKey) → AreRaised d keys → k < length keys
    → (get_or keys k key).level ≡ d.level (get_or keys k key).key
level_at d [] k key levels below = absurd (omega arith)
level_at d (first ∷ keys) zero key levels below = levels.0
level_at d (first ∷ keys) (suc k) key levels below = level_at d keys k key levels.1 (omega arith)

module _ (d : Draw) (level : ℕ) (keys : List RaisedKey) (k : ℕ) (key : RaisedKey) (below : k < length keys)
    (here : key ≡ get_or keys k key) where
  pub one_more_key : take (k + 1) (key_pairs keys) ≡ take k (key_pairs keys) ++ key_pair key ∷ []
  one_more_key =
      take_more (key_pairs keys) k (key_pair key) (omega (arith, below, length-map keys key_pair))
      ∙ ap (λ pair. take k (key_pairs keys) ++ pair ∷ [])
      (get_or-map key_pair keys k key (key_pair key) below ∙ ap key_pair (sym here))

  pub key_comes : (last : Option Page) → 1 ≤ level → level < 256 → IsPairs (key_pairs keys) → AreRaised d keys
      → length keys < 4294967296 → last ≡ open_page d (take k (key_pairs keys)) level
      → KeyComes d level (take k (key_pairs keys)) key last
  key_comes last above low pairs levels few last_is = record {
    pairs = subst IsPairs one_more_key
        (first_pairs (take (k + 1) (key_pairs keys)) (drop (k + 1) (key_pairs keys))
        (subst IsPairs (sym (take-append-drop (k + 1) (key_pairs keys))) pairs));
    few = omega (arith, length-take k (key_pairs keys), length-map keys key_pair, few);
    low = low;
    above = above;
    level_is = subst (λ (r : RaisedKey). r.level ≡ d.level r.key) (sym here) (level_at d keys k key levels below);
    last_is = last_is;
  }

  -- the page that was closed is behind the closed ones
  pub grown : (before : List Page) (last closed : Option Page)
      → HasCome d level (take k (key_pairs keys)) (key_pair key) last closed
      → before ++ closed_pages d (take k (key_pairs keys)) level ++ list_of closed
      ≡ before ++ closed_pages d (take (k + 1) (key_pairs keys)) level
  grown before last closed has =
      append_assoc before (closed_pages d (take k (key_pairs keys)) level) (list_of closed)
      ∙ ap (λ ps. before ++ ps) (sym has.closed_is ∙ ap (λ s. closed_pages d s level) (sym one_more_key))

-- the closed pages are no more than those of the level
pub closed_fit : (d : Draw) (level k slots : ℕ) (s : List Pair) (before : List Page)
    → length (before ++ level_pages d s level) ≤ slots → length (before ++ closed_pages d (take k s) level) ≤ slots
closed_fit d level k slots s before fits =
    let closed = closed_pages d (take k s) level in
    let first : take (length closed) (level_pages d s level) ≡ closed =
    ap (λ r. take (length closed) (level_pages d r level)) (sym (take-append-drop k s))
    ∙ closed_stay d (take k s) (drop k s) level in
    omega (
      arith,
      fits,
      ap length first,
      length-take (length closed) (level_pages d s level),
      length-append before (level_pages d s level),
      length-append before closed,
    )

-- behind the last key all pages are closed but the last
pub all_closed : (d : Draw) (level k : ℕ) (s : List Pair) (before : List Page) (last : Option Page) → length s ≤ k
    → last ≡ open_page d (take k s) level
    → before ++ closed_pages d (take k s) level ++ list_of last ≡ before ++ level_pages d s level
all_closed d level k s before last end last_is =
    append_assoc before (closed_pages d (take k s) level) (list_of last)
    ∙ ap (λ ps. before ++ ps)
    (ap (λ o. closed_pages d (take k s) level ++ list_of o) last_is ∙ ends_whole (level_pages d (take k s) level)
    ∙ ap (λ r. level_pages d r level) (take_all k s end))

-- what holds whatever was answered
pub on_ok : {T E : Type 0} (result : Result T E) (P : Type 0) → P → OnOk result P
on_ok (Ok value) P here = here
on_ok (Err error) P here = tt

-- a fault on the way
pub places_short : {T E U F : Type 0} (d : Draw) (pages other : List Page) (start now : DiskState) (error : F)
    (result : Result T E) → IsErr result → Places {T = U} d pages start now (Err error)
    → Places d other start now result
places_short d pages other start now error result fails placed = record {
  calls = AreCalls-fault start now error result fails placed.calls;
  keeps = placed.keeps;
  done = no_claim result (ArePlaced d other start now) fails;
}
