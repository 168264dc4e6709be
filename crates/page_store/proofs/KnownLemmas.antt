-- Lemmas on reads of what is known of a label.
use Rattle.std.proofs.Common.{◌≡◌, ◌↔◌, ℕ, Bool, true, false, List, Option, Some, None, IfSome, IsSome, IsTrue, is_some}
use Rattle.std.proofs.Common.{Ok, refl, sym, ap, subst, ◌∙◌, inl, inr}
use Rattle.std.specs.Borrow.{Bor}
use Rattle.std.specs.FinMap as maps
use Rattle.store_model.specs.Labels.{Label}
use Rattle.store_model.specs.Draws.{Draw}
use Rattle.store_model.specs.Pages.{Page}
use Rattle.store_model.specs.PageMaps.{HoldsPages}
use Rattle.store_base.specs.SlotsState.{SlotsState, IsObservable}
use Rattle.store_base.proofs.SlotsCalls.{AreSlotCalls-none}
use Rattle.table_memory.specs.Memos.{Remembered, staged_at, IsRemembered, IsKnownPage, IsKnown, IsMemoOf, RemembersMore}
use Rattle.table_memory.specs.Staging.{StagedPages}
use Rattle.page_store.proofs.LookupLemmas.{Reads, ReadsChanged, staged_read, settled_read}

-- what is remembered of a label needs no read
pub recalled : (d : Draw) (slots : SlotsState) (memo : Remembered) (l : Label) (page : Option Page)
    → IsMemoOf d slots memo → IsRemembered memo l page → Reads d slots slots l (Ok page)
recalled d slots memo l page of is = record {
  calls = AreSlotCalls-none slots page;
  reads = λ observable. refl;
  found = λ m observable holds. of.tells m observable holds l page is;
}

-- nor does what is known of it
pub known_read : (d : Draw) (slots : SlotsState) (changes : StagedPages) (memo : Remembered) (l : Label)
    (page : Option Page) → IsMemoOf d slots memo → IsKnownPage changes memo l page
    → ReadsChanged d slots slots changes l (Ok page)
known_read d slots changes memo l page of known = elim known [
  | inl staged ↦ staged_read d slots changes l page (sym staged)
  | inr before ↦ settled_read d slots slots changes l (Ok page) (sym before.0)
      (recalled d slots memo l page of before.1)
]

-- what is staged under a label, or else remembered of it, is known
module _ (changes : StagedPages) (memo : Remembered) (l : Label) where
  known_by : (page : Option Page) → IsRemembered memo l page → (staged : Option (Option Page))
      → staged_at changes l ≡ staged → IsKnown changes memo l
  known_by page is None none = record { found = page; known = inr (none, is) }
  known_by page is (Some other) staged = record { found = other; known = inl staged }

  -- where the memo answers
  pub known_by_memo : (answer : Option (Bor (Option Page))) → IfSome answer (λ found. IsRemembered memo l found.now)
      → is_some answer ≡ true → IsKnown changes memo l
  known_by_memo (Some found) is some = known_by found.now is (staged_at changes l) refl
  known_by_memo None is some = absurd (cc)

  known_staged : (staged : Option (Option Page)) → staged_at changes l ≡ staged → is_some staged ≡ true
      → IsKnown changes memo l
  known_staged (Some page) is some = record { found = page; known = inl is }
  known_staged None is some = absurd (cc)

  -- where it does not, just what is staged is known
  pub known_as_staged : (answer : Option (Bor (Option Page)))
      → ((found : Option Page) → IsRemembered memo l found → IsSome answer) → is_some answer ≡ false → (is_there : Bool)
      → is_there ≡ is_some (staged_at changes l) → IsTrue is_there ↔ IsKnown changes memo l
  known_as_staged answer all none is_there is = (
    (λ yes. known_staged (staged_at changes l) refl (sym is ∙ yes)),
    (λ known. elim known.known [
      | inl staged ↦ is ∙ ap is_some staged
      | inr before ↦ let both : true ≡ false = sym (all known.found before.1) ∙ none in absurd (cc)
    ]),
  )

-- behind a read it is a memo of the slots still, with what was found
pub memo_more : (d : Draw) (old new : SlotsState) (memo after : Remembered) (at : Label) (found : Option Page)
    → Reads d old new at (Ok found) → IsMemoOf d old memo → RemembersMore memo after at found → IsMemoOf d new after
memo_more d old new memo after at found read of more = record {
  tells = λ m observable holds l page is.
      let before : IsObservable old = sym read.calls.observable ∙ observable in
      let held = subst (λ (slots : List (List ℕ)). HoldsPages d slots m) (read.reads before) holds in
      elim (more l page is) [
        | inl was ↦ of.tells m before held l page was
        | inr now ↦ now.1 ∙ read.found m before held ∙ ap (maps.get m) (sym now.0)
      ];
}
