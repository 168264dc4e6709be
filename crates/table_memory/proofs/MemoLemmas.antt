-- Lemmas on what is remembered of slots.
use Rattle.std.proofs.Common.{◌≡◌, ◌≢◌, ◌⊎◌, ℕ, zero, suc, ◌+◌, ◌*◌, ◌<◌, ◌≤◌, Bool, true, false, cond, List, [], ◌∷◌}
use Rattle.std.proofs.Common.{◌++◌, length, drop, slice_get, slice_set, slice_index_or, Option, Some, None, Result}
use Rattle.std.proofs.Common.{refl, sym, ap, ap₂, subst, ◌∙◌, inl, inr, arith, length-append}
use Rattle.std.proofs.lemmas.Option.{same_Some, none-some}
use Rattle.std.specs.Int.{w64, from_be_bytes}
use Rattle.std.specs.List.{All}
use Rattle.std.specs.declared.cmp.Ordering.TheVariants.{Less}
use Rattle.std.specs.Map.{keys_of}
use Rattle.std.specs.BTreeMap.{is_at}
use Rattle.std.specs.Ordering.{nat_cmp, is_eq}
use Rattle.std.specs.Cmp.{tied_itself}
use Rattle.std.specs.Cmp.Lexicographic.{slice_cmp, nat_list_cmp_total}
use Rattle.store_model.specs.Labels.{Lead, Label, IsLabel, label_bytes, label_cmp}
use Rattle.store_model.specs.Labels.Lead.{Start, Leader}
use Rattle.store_model.specs.Draws.{Draw}
use Rattle.store_model.specs.Pages.{Page}
use Rattle.store_model.specs.PageMaps.{PageMap, page_at, HoldsPages}
use Rattle.store_base.specs.declared.store_fault.Fault.{Fault}
use Rattle.store_base.specs.SlotsState.{SlotsState, IsObservable, AreSlotCalls}
use Rattle.table_memory.specs.Memos.{wrapped, checked, checksum_from, checksum_of, checksum, memo_place, Remembered}
use Rattle.table_memory.specs.Memos.{IsRemembered, KeepsPlaces, IsMemoOf, Remembers, RemembersMore, staged_at, Renews}
use Rattle.table_memory.specs.Staging.{StagedPages, with_changes}
use Rattle.table_memory.proofs.SpelledLemmas.{label_in-label_bytes}
use Rattle.table_memory.proofs.ChangeLemmas.{page_or, page_at-with_changes, same_when_tied}

-- labels that tie have the same bytes
same_label : (k l : Label) → is_at (label_cmp k) l ≡ true → label_bytes l ≡ label_bytes k
same_label k l tied = sym (same_when_tied (label_bytes k) (label_bytes l) tied)

-- ---- the checksum

-- one more word
checked_more : (words : List (List ℕ)) (k word sum sums : ℕ) → k < length words
    → word ≡ from_be_bytes w64 (slice_index_or words k [])
    → checked (drop (suc k) words) (wrapped (sum + word)) (wrapped (sums + wrapped (sum + word)))
    ≡ checked (drop k words) sum sums
checked_more [] k word sum sums within is = absurd (omega (arith, within))
checked_more (w ∷ words) zero word sum sums within is =
    ap (λ (n : ℕ). checked words (wrapped (sum + n)) (wrapped (sums + wrapped (sum + n)))) is
checked_more (w ∷ words) (suc k) word sum sums within is = checked_more words k word sum sums (omega (arith, within)) is

pub checked_next : (words : List (List ℕ)) (k next word sum sums more most : ℕ) → next ≡ suc k → k < length words
    → word ≡ from_be_bytes w64 (slice_index_or words k []) → more ≡ wrapped (sum + word) → most ≡ wrapped (sums + more)
    → checked (drop next words) more most ≡ checked (drop k words) sum sums
checked_next words k next word sum sums more most after within is adds ends =
    ap (λ (n : ℕ). checked (drop n words) more most) after
    ∙ ap₂ (λ (s t : ℕ). checked (drop (suc k) words) s t) adds (ends ∙ ap (λ (n : ℕ). wrapped (sums + n)) adds)
    ∙ checked_more words k word sum sums within is

-- all of them
pub checked_all : (words : List (List ℕ)) (k sum sums : ℕ) → length words ≤ k → checked (drop k words) sum sums ≡ sums
checked_all [] zero sum sums all = refl
checked_all [] (suc k) sum sums all = refl
checked_all (b ∷ words) zero sum sums all = absurd (omega (arith, all))
checked_all (b ∷ words) (suc k) sum sums all = checked_all words k sum sums (omega (arith, all))

-- it is that of the label
checksum-label_bytes : (l : Label) → IsLabel l → checksum (label_bytes l) ≡ checksum_of l
unfolding checksum
checksum-label_bytes l valid = ap checksum_of (label_in-label_bytes l valid)

pub checksum_led : (l : Label) (key : List ℕ) (first : ℕ) → IsLabel l → l.lead ≡ Leader key
    → first ≡ l.level + 256 * l.index → checksum_from (Leader key) first ≡ checksum (label_bytes l)
checksum_led l key first valid leads is = ap (checksum_from (Leader key)) is
    ∙ ap (λ (lead : Lead). checksum_from lead (l.level + 256 * l.index)) (sym leads)
    ∙ sym (checksum-label_bytes l valid)

pub checksum_unled : (l : Label) (first : ℕ) → IsLabel l → l.lead ≡ Start → first ≡ l.level + 256 * l.index
    → first ≡ checksum (label_bytes l)
unfolding checksum_from
checksum_unled l first valid leads is =
    is ∙ ap (λ (lead : Lead). checksum_from lead (l.level + 256 * l.index)) (sym leads)
    ∙ sym (checksum-label_bytes l valid)

-- ---- the memo itself

-- a place more
pushed_back : (memo : Remembered) (place : ℕ) (entry : Label × Option Page)
    → slice_get (memo ++ None ∷ []) place ≡ Some (Some entry) → slice_get memo place ≡ Some (Some entry)
pushed_back [] zero entry is = absurd (none-some entry (same_Some None (Some entry) is))
pushed_back [] (suc place) entry is = cc
pushed_back (e ∷ memo) zero entry is = is
pushed_back (e ∷ memo) (suc place) entry is = pushed_back memo place entry is

pub place_more : (old memo new : Remembered) (count : ℕ) → (length memo ≡ count) × KeepsPlaces old memo
    → new ≡ memo ++ None ∷ [] → (length new ≡ count + 1) × KeepsPlaces old new
place_more old memo new count so_far pushed =
    subst (λ (places : Remembered). (length places ≡ count + 1) × KeepsPlaces old places) (sym pushed) (
      omega (arith, so_far.0, length-append memo (None ∷ [])),
      λ place entry is.
          so_far.1 place entry (pushed_back memo place entry is),
    )

-- what is put at a place is there
put_there : (memo : Remembered) (at : ℕ) (what : Option (Label × Option Page)) → at < length memo
    → slice_get (slice_set memo at what) at ≡ Some what
put_there [] zero what within = absurd (omega (arith, within))
put_there [] (suc at) what within = absurd (omega (arith, within))
put_there (e ∷ memo) zero what within = refl
put_there (e ∷ memo) (suc at) what within = put_there memo at what (omega (arith, within))

-- and elsewhere is what was
put_elsewhere : (memo : Remembered) (at place : ℕ) (what : Option (Label × Option Page)) → place ≢ at
    → slice_get (slice_set memo at what) place ≡ slice_get memo place
put_elsewhere [] at place what other = refl
put_elsewhere (e ∷ memo) zero zero what other = absurd (other refl)
put_elsewhere (e ∷ memo) zero (suc place) what other = refl
put_elsewhere (e ∷ memo) (suc at) zero what other = refl
put_elsewhere (e ∷ memo) (suc at) (suc place) what other =
    put_elsewhere memo at place what (λ same. other (ap suc same))

-- two numbers are the same or not
same_or_not : (i j : ℕ) → (i ≡ j) ⊎ (i ≢ j)
same_or_not i j = grind arith

-- what was found of a label is put at its place
pub remembers_put : (old mid : Remembered) (at : Label) (found : Option Page) (place : ℕ)
    → place ≡ memo_place (label_bytes at) → place < length mid → KeepsPlaces old mid
    → Remembers old (slice_set mid place (Some (at, found))) at found
remembers_put old mid at found place is within keeps l page remembered =
    by_place (same_or_not (memo_place (label_bytes l)) place)
  where
    by_place : (memo_place (label_bytes l) ≡ place) ⊎ (memo_place (label_bytes l) ≢ place)
        → ((label_bytes l ≢ label_bytes at) × IsRemembered old l page)
        ⊎ ((label_bytes l ≡ label_bytes at) × (page ≡ found))
    by_place (inl here) =
        let put = put_there mid place (Some (at, found)) within in
        let same = same_Some (at, found) (l, page)
        (same_Some (Some (at, found)) (Some (l, page))
        (sym put ∙ ap (slice_get (slice_set mid place (Some (at, found)))) (sym here) ∙ remembered)) in
        inr (
          sym (ap (λ (x : Label × Option Page). label_bytes x.0) same),
          sym (ap (λ (x : Label × Option Page). x.1) same),
        )
    by_place (inr other) =
        inl (
          λ same. other (ap memo_place same ∙ sym is),
          keeps (memo_place (label_bytes l)) (l, page)
              (sym (put_elsewhere mid place (memo_place (label_bytes l)) (Some (at, found)) other) ∙ remembered),
        )

-- where there was no memory for the places
pub remembers_none : (old none : Remembered) (at : Label) (found : Option Page) → none ≡ []
    → Remembers old none at found
remembers_none old none at found empty l page is =
    absurd (none-some (Some (l, page))
    (ap (λ (memo : Remembered). slice_get memo (memo_place (label_bytes l))) (sym empty) ∙ is))

pub remembers_more : (old new : Remembered) (at : Label) (found : Option Page) → Remembers old new at found
    → RemembersMore old new at found
remembers_more old new at found remembers l page is =
    elim (remembers l page is) [ inl was ↦ inl was.1 | inr now ↦ inr now ]

-- what is at the place of a label, with this label
pub recalled_at : (memo shown : Remembered) (place : ℕ) (what : Option (Label × Option Page)) (kept l : Label)
    (page : Option Page) → shown ≡ memo → place ≡ memo_place (label_bytes l) → slice_get shown place ≡ Some what
    → what ≡ Some (kept, page) → kept ≡ l → IsRemembered memo l page
recalled_at memo shown place what kept l page same is got what_is kept_is =
    ap₂ slice_get (sym same) (sym is) ∙ got ∙ ap Some (what_is ∙ ap (λ (k : Label). Some (k, page)) kept_is)

-- ---- the memo of slots

pub memo_empty : (d : Draw) (slots : SlotsState) (none : Remembered) → none ≡ [] → IsMemoOf d slots none
memo_empty d slots none empty = record {
  tells = λ m observable holds l page is.
      absurd (none-some (Some (l, page))
      (ap (λ (memo : Remembered). slice_get memo (memo_place (label_bytes l))) (sym empty) ∙ is));
}

-- behind reads it is a memo of the slots still
pub memo_read : {T : Type 0} (d : Draw) (old new : SlotsState) (memo : Remembered) (result : Result T Fault)
    → AreSlotCalls old new result → (IsObservable old → new.slots ≡ old.slots)
    → IsMemoOf d old memo → IsMemoOf d new memo
memo_read d old new memo result calls reads of = record {
  tells = λ m observable holds l page is.
      let before : IsObservable old = sym calls.observable ∙ observable in
      of.tells m before (subst (λ (slots : List (List ℕ)). HoldsPages d slots m) (reads before) holds) l page is;
}

-- ---- the loop that renews a memo

-- a loop that renews it has come so far
pub record IsRenewing (old now : Remembered) (all rest : StagedPages) : Type 0 where
  pub within : (l : Label) (page : Option Page) → staged_at rest l ≡ Some page → staged_at all l ≡ Some page
  pub renews : (l : Label) (page : Option Page) → IsRemembered now l page
      → (staged_at all l ≡ Some page) ⊎ ((staged_at all l ≡ staged_at rest l) × IsRemembered old l page)

pub renewing_begins : (memo : Remembered) (all : StagedPages) → IsRenewing memo memo all all
renewing_begins memo all = record { within = λ l page is. is; renews = λ l page is. inr (refl, is) }

-- under a label below those of all changes nothing is staged
none_below : (k l : Label) (es : StagedPages) → All (λ q. label_cmp k q ≡ Less) (keys_of es)
    → label_bytes l ≡ label_bytes k → staged_at es l ≡ None
none_below k l [] below same = refl
none_below k l (e ∷ es) below same =
    let apart : is_at (label_cmp l) e.0 ≡ false =
    ap (λ (b : List ℕ). is_eq (slice_cmp nat_cmp b (label_bytes e.0))) same
    ∙ ap is_eq (below 0 e.0 (omega arith)) in
    ap (λ (b : Bool). cond b (Some e.1) (staged_at es l)) apart
    ∙ none_below k l es (λ i q low. below (suc i) q (omega (arith, low))) same

-- what is staged first
staged_first : (k l : Label) (v : Option Page) (es : StagedPages) → label_bytes l ≡ label_bytes k
    → staged_at ((k, v) ∷ es) l ≡ Some v
staged_first k l v es same =
    let tied : is_at (label_cmp l) k ≡ true = ap (λ (b : List ℕ). is_eq (slice_cmp nat_cmp b (label_bytes k))) same
    ∙ ap is_eq (tied_itself nat_list_cmp_total (label_bytes k)) in
    ap (λ (b : Bool). cond b (Some v) (staged_at es l)) tied

staged_later : (k l : Label) (v : Option Page) (es : StagedPages) → label_bytes l ≢ label_bytes k
    → staged_at ((k, v) ∷ es) l ≡ staged_at es l
staged_later k l v es other =
    (elim (is_at (label_cmp l) k) as (λ b. is_at (label_cmp l) k ≡ b
    → cond b (Some v) (staged_at es l) ≡ staged_at es l) [
      | true ↦ λ tied. absurd (other (sym (same_label l k tied)))
      | false ↦ λ apart. refl
    ]) refl

pub renewing_keeps : (old now new : Remembered) (all rest left : StagedPages) (entry : Label × Option Page)
    → rest ≡ entry ∷ left → All (λ q. label_cmp entry.0 q ≡ Less) (keys_of left) → IsRenewing old now all rest
    → Remembers now new entry.0 entry.1 → IsRenewing old new all left
renewing_keeps old now new all rest left entry next below so_far remembers =
    let k = entry.0 in
    let v = entry.1 in
    let here = subst (λ (es : StagedPages). IsRenewing old now all es) next so_far in
    record {
      within = λ l page is. here.within l page
          (staged_later k l v left (λ same. none-some page (sym (none_below k l left below same) ∙ is)) ∙ is);
      renews = λ l page is. elim (remembers l page is) [
        | inl was ↦ elim (here.renews l page was.1) [
          | inl done ↦ inl done
          | inr before ↦ inr (before.0 ∙ staged_later k l v left was.0, before.1)
        ]
        | inr put ↦ inl (here.within l page (staged_first k l v left put.0 ∙ ap Some (sym put.1)))
      ];
    }

pub renewing_ends : (old now : Remembered) (all rest : StagedPages) → rest ≡ []
    → IsRenewing old now all rest → Renews all old now
renewing_ends old now all rest none so_far l page is = elim (so_far.renews l page is) [
  | inl done ↦ inl done
  | inr before ↦ inr (before.0 ∙ ap (λ (es : StagedPages). staged_at es l) none, before.1)
]

-- what is remembered behind changes is what the map with them has there
pub renewed : (m : PageMap) (changes : StagedPages) (old new : Remembered) (l : Label) (page : Option Page)
    → (IsRemembered old l page → page ≡ page_at m l) → Renews changes old new → IsRemembered new l page
    → page ≡ page_at (with_changes m changes) l
renewed m changes old new l page was renews is = elim (renews l page is) [
  | inl staged ↦ ap (λ (o : Option (Option Page)). page_or o (page_at m l)) (sym staged)
      ∙ sym (page_at-with_changes m changes l)
  | inr before ↦ was before.1 ∙ ap (λ (o : Option (Option Page)). page_or o (page_at m l)) (sym before.0)
      ∙ sym (page_at-with_changes m changes l)
]
