-- What two device calls in a row do to what is ahead and to the images.
use Rattle.std.proofs.Common.{◌≡◌, ℕ, ◌+◌, ◌≤◌, List, ◌++◌, length, length-append, take, Option, Some, None, Result, Ok, Err, refl, sym, ap, ◌∙◌, subst, arith}
use Rattle.std.specs.Prelude.{is_some, OnOk}
use Rattle.std.proofs.lemmas.List.{length-take-le, take_all}
use Rattle.ks_outside.specs.declared.disk.Disk.{Ghosts}
use Rattle.ks_outside.specs.Ranges.{Becomes, Gives, GivesAt}
use Rattle.ks_outside.specs.Moments.{Follows, Elapses}
use Rattle.ks_outside.specs.Images.{AllImages}
use Rattle.disk_calls.specs.Ahead.{IsAhead}
use Rattle.disk_calls.specs.WholeReads.{IsReading}
use Rattle.ks_outside.proofs.Joins.{passes_call, passes_on}
use Rattle.disk_calls.proofs.Filling.{told}
use Rattle.disk_calls.proofs.PlaceLemmas.{take_join}

pub becomes_back : (step : List ℕ → List ℕ → Type 0) (old new : Option (List ℕ)) (c : List ℕ) → Becomes step old new → new ≡ Some c
    → (b : List ℕ) × (old ≡ Some b) × step b c
becomes_back step None None c h e = absurd (cc)
becomes_back step None (Some n) c h e = absurd h
becomes_back step (Some b) None c h e = absurd h
becomes_back step (Some b) (Some n) c h e = let same : n ≡ c = cc in (b, refl, subst (step b) same h)

-- a write leaves a disk telling what a read gives, or nothing
pub becomes_told : (step : List ℕ → List ℕ → Type 0) (old new : Option (List ℕ)) → Becomes step old new → is_some new ≡ is_some old
becomes_told step None None h = refl
becomes_told step None (Some n) h = absurd h
becomes_told step (Some b) None h = absurd h
becomes_told step (Some b) (Some n) h = refl

module _ {D : Type 0} (g : Ghosts D) where
  -- a sync that answers Ok makes of each image what was ahead, and what is ahead of a disk is one of its images
  pub sync_follows : {T E : Type 0} → ((disk : D) (c : List ℕ) → IsAhead g disk c → g.images disk c) → (old mid new : D) (step : List ℕ → List ℕ → Type 0) (result : Result T E)
      → Follows step (IsAhead g old) (IsAhead g mid) → OnOk result (AllImages g new (IsAhead g mid)) → OnOk result (Follows step (g.images old) (g.images new))
  sync_follows law old mid new step (Ok x) follows made = λ c left. let from = follows c (made c left) in (from.0, law old from.0 from.1, from.2)
  sync_follows law old mid new step (Err e) follows none = tt

grown : (c bytes more out : List ℕ) (count asked : ℕ) → bytes ≡ take (length bytes) c → GivesAt (length bytes) count asked out c → count ≤ length out
    → more ≡ bytes ++ take count out → more ≡ take (length more) c
grown c bytes more out count asked front gives within is =
    let size : length more ≡ length bytes + count = omega (arith, ap length is, length-append bytes (take count out), length-take-le count out within) in
    is ∙ (λ i. front i ++ gives.bytes i) ∙ take_join (length bytes) count c ∙ ap (λ (k : ℕ). take k c) (sym size)

pub reading_more : {D : Type 0} (g : Ghosts D) (old mid new : D) (size : ℕ) (bytes more out : List ℕ) (at count asked : ℕ) → IsReading g old mid size bytes
    → g.content new ≡ g.content mid → ((c : List ℕ) → g.images new c → g.images mid c)
    → Elapses (g.moment mid) (g.moment new) (g.images_since mid) (g.images_since new) (g.images new) → (g.is_sure mid → g.is_sure new) → g.fault_count new ≡ g.fault_count mid
    → at ≡ length bytes → Gives (g.content mid) at count asked out → count ≤ length out → more ≡ bytes ++ take count out → IsReading g old new size more
reading_more g old mid new size bytes more out at count asked i same fewer time sure no_fault place gives within is = record {
  synced = λ c left. same ∙ i.synced c (fewer c left);
  same = same ∙ i.same;
  images = λ c left. i.images c (fewer c left);
  passes = passes_on g old mid new (g.images old) (g.images old) (g.images old) i.passes (passes_call g mid new (g.images old) time (λ c left. i.images c (fewer c left))) (λ c p. p) (λ c p. p);
  sure = λ s. sure (i.sure s);
  faults = no_fault ∙ i.faults;
  size_is = λ c e. i.size_is c (sym same ∙ e);
  front = λ c e. let was = sym same ∙ e in grown c bytes more out count asked (i.front c was) (subst (λ (k : ℕ). GivesAt k count asked out c) place (told (g.content mid) at count asked out c gives was)) within is;
}

pub read_whole : {D : Type 0} (g : Ghosts D) (old now : D) (size : ℕ) (bytes : List ℕ) → IsReading g old now size bytes → size ≤ length bytes → AllImages g now (λ c. c ≡ bytes)
read_whole g old now size bytes i past c left =
    let told = i.synced c left in
    sym (i.front c told ∙ take_all (length bytes) c (omega (arith, i.size_is c told, past)))

pub read_told : {D : Type 0} (g : Ghosts D) → ((disk : D) (c : List ℕ) → g.content disk ≡ Some c → g.images disk c) → (old now : D) (size : ℕ) (bytes : List ℕ) → IsReading g old now size bytes
    → AllImages g now (λ c. c ≡ bytes) → (c : List ℕ) → g.content old ≡ Some c → bytes ≡ c
read_told g law old now size bytes i all c e = sym (all c (law now c (i.same ∙ e)))
