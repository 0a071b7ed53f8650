-- Records of each type, computed: read, written over other bytes, and refused. The numbers due were computed by fixed offsets, apart from
-- these definitions.
use mathlib.Core.Path.{◌≡◌, refl}
use mathlib.Core.List.{List, [], ◌∷◌}
use Prim.Native.Nat.{ℕ}
use lib.ListN.{take, replicate}
use Rattle.numbers.specs.Numbers.{le, unle}
use Rattle.numbers.specs.Places.{over}
use Rattle.refusal.specs.Answer.{accepted, refused}
use Rattle.btree_v2_record.specs.Records.{is_in, fields_in, record_length, record_bytes, value_in, values_in, values_fit, record_read, record_written, record_output}

-- The bytes 1, 2, 3 and so on.
counted : ℕ → List ℕ
counted n = take n (1 ∷ 2 ∷ 3 ∷ 4 ∷ 5 ∷ 6 ∷ 7 ∷ 8 ∷ 9 ∷ 10 ∷ 11 ∷ 12 ∷ 13 ∷ 14 ∷ 15 ∷ 16 ∷ 17 ∷ 18 ∷ [])

read_trials : (record_read 5 (counted 11) ≡ accepted (67305985 ∷ 3107258649478661 ∷ 0 ∷ 0 ∷ []))
    × (record_read 6 (counted 15) ≡ accepted (0 ∷ 4237573850073609 ∷ 0 ∷ 578437695752307201 ∷ []))
    × (record_read 8 (counted 17) ≡ accepted (286265102 ∷ 578437695752307201 ∷ 9 ∷ 218893066 ∷ []))
    × (record_read 9 (counted 13) ≡ accepted (0 ∷ 578437695752307201 ∷ 9 ∷ 218893066 ∷ []))
    × (record_read 5 (counted 10) ≡ refused 20 [])
    × (record_read 5 (counted 12) ≡ refused 20 [])
    × (record_read 6 (counted 11) ≡ refused 20 [])
    × (record_read 8 (counted 18) ≡ refused 20 [])
    × (record_read 9 (counted 12) ≡ refused 20 [])
    × (record_read 7 (counted 11) ≡ refused 19 [])
    × (record_read 7 (counted 0) ≡ refused 19 [])
    × (record_read 4 (counted 11) ≡ refused 19 [])
    × (record_read 10 (counted 17) ≡ refused 19 [])
unfolding record_read is_in fields_in record_length values_in value_in unle counted
read_trials = (refl, refl, refl, refl, refl, refl, refl, refl, refl, refl, refl, refl, refl)

-- Written over 165, with a byte behind the record.
lent : ℕ → List ℕ
lent n = replicate n 165

output_trials : (record_output 5 (67305985 ∷ 3107258649478661 ∷ 0 ∷ 0 ∷ []) (lent 12) ≡ 1 ∷ 2 ∷ 3 ∷ 4 ∷ 5 ∷ 6 ∷ 7 ∷ 8 ∷ 9 ∷ 10 ∷ 11 ∷ 165 ∷ [])
    × (record_output 6 (0 ∷ 4237573850073609 ∷ 0 ∷ 578437695752307201 ∷ []) (lent 16) ≡ 1 ∷ 2 ∷ 3 ∷ 4 ∷ 5 ∷ 6 ∷ 7 ∷ 8 ∷ 9 ∷ 10 ∷ 11 ∷ 12 ∷ 13 ∷ 14 ∷ 15 ∷ 165 ∷ [])
    × (record_output 8 (286265102 ∷ 578437695752307201 ∷ 9 ∷ 218893066 ∷ []) (lent 18) ≡ 1 ∷ 2 ∷ 3 ∷ 4 ∷ 5 ∷ 6 ∷ 7 ∷ 8 ∷ 9 ∷ 10 ∷ 11 ∷ 12 ∷ 13 ∷ 14 ∷ 15 ∷ 16 ∷ 17 ∷ 165 ∷ [])
    × (record_output 9 (0 ∷ 578437695752307201 ∷ 9 ∷ 218893066 ∷ []) (lent 14) ≡ 1 ∷ 2 ∷ 3 ∷ 4 ∷ 5 ∷ 6 ∷ 7 ∷ 8 ∷ 9 ∷ 10 ∷ 11 ∷ 12 ∷ 13 ∷ 165 ∷ [])
unfolding record_output record_written is_in fields_in record_length values_fit record_bytes le over lent
output_trials = (refl, refl, refl, refl)

-- What a write answers: lengths, values at and above their limits, and which refusal comes first.
written_trials : (record_written 5 (67305985 ∷ 3107258649478661 ∷ 0 ∷ 0 ∷ []) (lent 11) ≡ accepted (11 ∷ []))
    × (record_written 6 (0 ∷ 4237573850073609 ∷ 0 ∷ 578437695752307201 ∷ []) (lent 15) ≡ accepted (15 ∷ []))
    × (record_written 8 (286265102 ∷ 578437695752307201 ∷ 9 ∷ 218893066 ∷ []) (lent 17) ≡ accepted (17 ∷ []))
    × (record_written 9 (0 ∷ 578437695752307201 ∷ 9 ∷ 218893066 ∷ []) (lent 14) ≡ accepted (13 ∷ []))
    × (record_written 5 (4294967296 ∷ 0 ∷ 0 ∷ 0 ∷ []) (lent 11) ≡ refused 20 [])
    × (record_written 5 (0 ∷ 72057594037927936 ∷ 0 ∷ 0 ∷ []) (lent 11) ≡ refused 20 [])
    × (record_written 5 (0 ∷ 0 ∷ 1 ∷ 0 ∷ []) (lent 0) ≡ refused 20 [])
    × (record_written 5 (0 ∷ 0 ∷ 0 ∷ 1 ∷ []) (lent 11) ≡ refused 20 [])
    × (record_written 6 (1 ∷ 0 ∷ 0 ∷ 0 ∷ []) (lent 15) ≡ refused 20 [])
    × (record_written 6 (0 ∷ 72057594037927935 ∷ 0 ∷ 18446744073709551615 ∷ []) (lent 15) ≡ accepted (15 ∷ []))
    × (record_written 8 (0 ∷ 0 ∷ 256 ∷ 0 ∷ []) (lent 17) ≡ refused 20 [])
    × (record_written 8 (4294967295 ∷ 18446744073709551615 ∷ 255 ∷ 4294967295 ∷ []) (lent 17) ≡ accepted (17 ∷ []))
    × (record_written 9 (1 ∷ 0 ∷ 0 ∷ 0 ∷ []) (lent 13) ≡ refused 20 [])
    × (record_written 9 (0 ∷ 0 ∷ 0 ∷ 4294967296 ∷ []) (lent 13) ≡ refused 20 [])
    × (record_written 7 (0 ∷ 0 ∷ 0 ∷ 0 ∷ []) (lent 0) ≡ refused 19 [])
    × (record_written 7 (18446744073709551615 ∷ 18446744073709551615 ∷ 18446744073709551615 ∷ 18446744073709551615 ∷ []) (lent 20) ≡ refused 19 [])
    × (record_written 5 (67305985 ∷ 3107258649478661 ∷ 0 ∷ 0 ∷ []) (lent 10) ≡ refused 15 (10 ∷ []))
    × (record_written 9 (0 ∷ 578437695752307201 ∷ 9 ∷ 218893066 ∷ []) (lent 12) ≡ refused 15 (12 ∷ []))
unfolding record_written is_in fields_in record_length values_fit lent
written_trials = (refl, refl, refl, refl, refl, refl, refl, refl, refl, refl, refl, refl, refl, refl, refl, refl, refl, refl)
