-- No two answers meet a promise. Assumes nothing.
use Rattle.lists.specs.OneAnswer.{AllowsOneAnswer}
use Rattle.std.specs.Prelude.{◌≡◌, Result}
use Rattle.lists.specs.Prelude.{ap, sym, ◌∙◌, ℕ, ℤ, pos, Float}
use Rattle.lists.proofs.Determined.{determined_by}
use Rattle.formats.specs.Floats.{zero_float}
use Rattle.refusals.specs.declared.Refusal.{Refusal}
use Rattle.refusals.proofs.Numbers.{told_apart}
use Rattle.channel.specs.Layouts.{CountTold, Angle, Tenths, count_told, angle_told, tenths_told}
use Rattle.channel.specs.contracts.channel_count as channel_count
use Rattle.channel.proofs.channel_count.Reads as channel_count_reads
use Rattle.channel.specs.contracts.refuses_order as refuses_order
use Rattle.channel.proofs.refuses_order.Reads as refuses_order_reads
use Rattle.channel.specs.contracts.ambisonic_channel_count as ambisonic_channel_count
use Rattle.channel.proofs.ambisonic_channel_count.Reads as ambisonic_channel_count_reads
use Rattle.channel.specs.contracts.is_surround as is_surround
use Rattle.channel.proofs.is_surround.Reads as is_surround_reads
use Rattle.channel.specs.contracts.is_low_frequency as is_low_frequency
use Rattle.channel.proofs.is_low_frequency.Reads as is_low_frequency_reads
use Rattle.channel.specs.contracts.speaker_azimuth as speaker_azimuth
use Rattle.channel.proofs.speaker_azimuth.Reads as speaker_azimuth_reads
use Rattle.channel.specs.contracts.speaker_tenths as speaker_tenths
use Rattle.channel.proofs.speaker_tenths.Reads as speaker_tenths_reads
use Rattle.channel.specs.contracts.position_azimuth as position_azimuth
use Rattle.channel.proofs.position_azimuth.Reads as position_azimuth_reads
use Rattle.channel.specs.contracts.position_tenths as position_tenths
use Rattle.channel.proofs.position_tenths.Reads as position_tenths_reads

-- an answer is known by its number and what is beside it
counted_apart : (x y : Result ℕ Refusal) → count_told x ≡ count_told y → x ≡ y
counted_apart x y e = told_apart 0 x y (ap (λ (c : CountTold). c.refusal) e) (ap (λ (c : CountTold). c.channels) e)

angle_apart : (x y : Result Float Refusal) → angle_told x ≡ angle_told y → x ≡ y
angle_apart x y e = told_apart zero_float x y (ap (λ (a : Angle). a.refusal) e) (ap (λ (a : Angle). a.degrees) e)

tenths_apart : (x y : Result ℤ Refusal) → tenths_told x ≡ tenths_told y → x ≡ y
tenths_apart x y e = told_apart (pos 0) x y (ap (λ (a : Tenths). a.refusal) e) (ap (λ (a : Tenths). a.tenths) e)

pub channel_count_unique : AllowsOneAnswer channel_count.ended channel_count_reads.Learnt
channel_count_unique κs a x y p q = λ i. (counted_apart x.0 y.0 (p ∙ sym q) i, _)

pub refuses_order_unique : AllowsOneAnswer refuses_order.ended refuses_order_reads.Learnt
refuses_order_unique κs a = determined_by (λ z h i. (h i, _))

pub ambisonic_channel_count_unique : AllowsOneAnswer ambisonic_channel_count.ended ambisonic_channel_count_reads.Learnt
ambisonic_channel_count_unique κs a x y p q = λ i. (counted_apart x.0 y.0 (p ∙ sym q) i, _)

pub is_surround_unique : AllowsOneAnswer is_surround.ended is_surround_reads.Learnt
is_surround_unique κs a = determined_by (λ z h i. (h i, _))

pub is_low_frequency_unique : AllowsOneAnswer is_low_frequency.ended is_low_frequency_reads.Learnt
is_low_frequency_unique κs a = determined_by (λ z h i. (h i, _))

pub speaker_azimuth_unique : AllowsOneAnswer speaker_azimuth.ended speaker_azimuth_reads.Learnt
speaker_azimuth_unique κs a x y p q = λ i. (angle_apart x.0 y.0 (p ∙ sym q) i, _)

pub speaker_tenths_unique : AllowsOneAnswer speaker_tenths.ended speaker_tenths_reads.Learnt
speaker_tenths_unique κs a x y p q = λ i. (tenths_apart x.0 y.0 (p ∙ sym q) i, _)

pub position_azimuth_unique : AllowsOneAnswer position_azimuth.ended position_azimuth_reads.Learnt
position_azimuth_unique κs a x y p q = λ i. (angle_apart x.0 y.0 (p ∙ sym q) i, _)

pub position_tenths_unique : AllowsOneAnswer position_tenths.ended position_tenths_reads.Learnt
position_tenths_unique κs a x y p q = λ i. (tenths_apart x.0 y.0 (p ∙ sym q) i, _)
