-- What a write leaves in its two outputs: the bytes of an accepted one, and all as it was where it is refused.
use mathlib.Core.Path.{◌≡◌}
use mathlib.Core.List.{List}
use Prim.Native.Nat.{ℕ}
use Rattle.refusal.specs.Answer.{accepted, refused}
use Rattle.numbers.specs.Places.{over}
use Rattle.format.specs.declared.Request.{Request}
use Rattle.format.specs.Request.{image_of, header_from}
use Rattle.write_checks.specs.Writing.{written, header_exit, image_exit}

module _ (q : Request) (recs header_entry image_entry figures : List ℕ) (ok : written q recs header_entry image_entry ≡ accepted figures) where
  pub header-put : header_exit q recs header_entry image_entry ≡ over (header_from q) header_entry
  unfolding header_exit
  header-put = rw ok

  pub image_put : image_exit q recs header_entry image_entry ≡ over (image_of q recs) image_entry
  unfolding image_exit
  image_put = rw ok

-- A refused write leaves both buffers.
module _ (q : Request) (recs header_entry image_entry : List ℕ) (number : ℕ) (values : List ℕ)
    (refusal : written q recs header_entry image_entry ≡ refused number values) where
  pub header_left_lem : header_exit q recs header_entry image_entry ≡ header_entry
  unfolding header_exit
  header_left_lem = rw refusal

  pub image_left_lem : image_exit q recs header_entry image_entry ≡ image_entry
  unfolding image_exit
  image_left_lem = rw refusal
