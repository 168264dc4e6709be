-- A buffer is filled with bytes of the image, piece by piece.
use Rattle.std.proofs.Common.{◌≡◌, ℕ, ◌+◌, ◌-◌, ◌<◌, ◌≤◌, List, ◌++◌, length, take, drop, Ok, IsTrue, refl, sym, ap}
use Rattle.std.proofs.Common.{subst}
use Rattle.std.proofs.Common.{◌∙◌, arith}
use Rattle.std.proofs.lemmas.List.{drop_at, length-take-le, take-append-le, length-take, length-drop, length-append}
use Rattle.std.proofs.lemmas.Slice.{take-put_mid_below}
use Rattle.std.proofs.Math.Seq.{take-add}
use borrow.Rule.Slice.PartMut.{put_mid}
use Rattle.store_model.specs.Parameters.{Parameters}
use Rattle.store_model.specs.Images.{bytes_at}
use Rattle.store_base.specs.SlotsState.{SlotsState, IsObservable}
use Rattle.recovered_store.specs.SlotsDisks.{image_of, ReadsSlots}
use Rattle.recovered_store.proofs.Blocks.{bytes_at-add}

-- so many bytes of the buffer came, and the slots were only read
pub record IsFilledTo (old now : SlotsState) (p now_p : Parameters) (at : ℕ) (buffer : List ℕ) (done : ℕ) : Type 0 where
  pub params : now_p ≡ p
  pub within : done ≤ length buffer
  pub reads : ReadsSlots {E = Unit {0}} old now (Ok done)
  pub bytes : IsObservable old → take done buffer ≡ bytes_at (image_of p old.slots) at done

-- before the first read
pub begins_to_fill : (slots : SlotsState) (p : Parameters) (at : ℕ) (buffer : List ℕ)
    → IsFilledTo slots slots p p at buffer 0
begins_to_fill slots p at buffer = record {
  params = refl;
  within = omega arith;
  reads = record { count = refl; observable = refl; takes_none = refl; faults = refl; slots = λ observable. refl };
  bytes = λ observable. refl;
}

-- a read of what comes next
pub fills_more : (old now new : SlotsState) (p now_p new_p : Parameters) (at done more : ℕ) (buffer part : List ℕ)
    {E : Type 0} → IsFilledTo old now p now_p at buffer done → done < length buffer
    → ReadsSlots {E = E} now new (Ok more)
    → new_p ≡ now_p → length part ≡ length (take (length buffer - done) (drop done buffer)) → more ≤ length part
    → (IsObservable now → take more part ≡ bytes_at (image_of now_p now.slots) (at + done) more)
    → IsFilledTo old new p new_p at (put_mid done (length buffer - done) buffer part) (done + more)
fills_more old now new p now_p new_p at done more buffer part filled room reads same part_len within comes =
    let left = length buffer - done in
    let fits : done ≤ length buffer = filled.within in
    let part_is : length part ≡ left =
    part_len ∙ length-take left (drop done buffer) ∙ omega (arith, length-drop done buffer) in
    let all = put_mid done left buffer part in
    let front : take done all ≡ take done buffer = take-put_mid_below done left buffer part done (omega arith) fits in
    let behind : drop done all ≡ part ++ drop left (drop done buffer) =
    drop_at (take done buffer) (part ++ drop left (drop done buffer)) done (length-take-le done buffer fits) in
    record {
      params = same ∙ filled.params;
      within = omega (
        arith,
        part_is,
        within,
        fits,
        length-append (take done buffer) (part ++ drop left (drop done buffer)),
        length-append part (drop left (drop done buffer)),
        length-take-le done buffer fits,
      );
      reads = record {
        count = reads.count ∙ filled.reads.count;
        observable = reads.observable ∙ filled.reads.observable;
        takes_none = reads.takes_none ∙ filled.reads.takes_none;
        faults = reads.faults ∙ filled.reads.faults;
        slots = λ observable. reads.slots (subst (λ b. IsTrue b) (sym filled.reads.observable) observable)
            ∙ filled.reads.slots observable;
      };
      bytes = λ observable.
          let observable_now = subst (λ b. IsTrue b) (sym filled.reads.observable) observable in
          let image = image_of p old.slots in
          let image_is : image_of now_p now.slots ≡ image =
          ap (λ (q : Parameters). image_of q now.slots) filled.params
          ∙ ap (λ (slots : List (List ℕ)). image_of p slots) (filled.reads.slots observable) in
          take-add done more all
          ∙ ap (λ (bytes : List ℕ). bytes ++ take more (drop done all)) (front ∙ filled.bytes observable)
          ∙ ap (λ (bytes : List ℕ). bytes_at image at done ++ take more bytes) behind
          ∙ ap (λ (bytes : List ℕ). bytes_at image at done ++ bytes)
          (take-append-le more part (drop left (drop done buffer)) within ∙ comes observable_now
          ∙ ap (λ (bytes : List ℕ). bytes_at bytes (at + done) more) image_is)
          ∙ sym (bytes_at-add image at done more);
    }
