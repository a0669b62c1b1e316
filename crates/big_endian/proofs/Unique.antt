-- No two answers meet one promise. Assumes nothing.
use Rattle.lists.specs.OneAnswer.{AllowsOneAnswer}
use Rattle.lists.proofs.Determined.{determined_by}
use Rattle.big_endian.specs.contracts.has_room as has_room
use Rattle.big_endian.proofs.has_room.Reads as has_room_reads
use Rattle.big_endian.specs.contracts.get as get
use Rattle.big_endian.proofs.get.Reads as get_reads
use Rattle.big_endian.specs.contracts.put as put
use Rattle.big_endian.proofs.put.Reads as put_reads
use Rattle.big_endian.specs.contracts.get_i16 as get_i16
use Rattle.big_endian.proofs.get_i16.Reads as get_i16_reads
use Rattle.big_endian.specs.contracts.put_i16 as put_i16
use Rattle.big_endian.proofs.put_i16.Reads as put_i16_reads
use Rattle.big_endian.specs.contracts.get_f32 as get_f32
use Rattle.big_endian.proofs.get_f32.Reads as get_f32_reads
use Rattle.big_endian.specs.contracts.put_f32 as put_f32
use Rattle.big_endian.proofs.put_f32.Reads as put_f32_reads
use Rattle.big_endian.specs.contracts.get_f64 as get_f64
use Rattle.big_endian.proofs.get_f64.Reads as get_f64_reads
use Rattle.big_endian.specs.contracts.put_f64 as put_f64
use Rattle.big_endian.proofs.put_f64.Reads as put_f64_reads

has_room_unique : AllowsOneAnswer has_room.ended has_room_reads.Learnt
has_room_unique κs a = determined_by (λ z h i. (h i, _))

get_unique : AllowsOneAnswer get.ended get_reads.Learnt
get_unique κs a = determined_by (λ z h i. (h.bits i, _))

put_unique : AllowsOneAnswer put.ended put_reads.Learnt
put_unique κs a = determined_by (λ z h i. (_, (h i, _)))

get_i16_unique : AllowsOneAnswer get_i16.ended get_i16_reads.Learnt
get_i16_unique κs a = determined_by (λ z h i. (h i, _))

put_i16_unique : AllowsOneAnswer put_i16.ended put_i16_reads.Learnt
put_i16_unique κs a = determined_by (λ z h i. (_, (h i, _)))

get_f32_unique : AllowsOneAnswer get_f32.ended get_f32_reads.Learnt
get_f32_unique κs a = determined_by (λ z h i. (h i, _))

put_f32_unique : AllowsOneAnswer put_f32.ended put_f32_reads.Learnt
put_f32_unique κs a = determined_by (λ z h i. (_, (h i, _)))

get_f64_unique : AllowsOneAnswer get_f64.ended get_f64_reads.Learnt
get_f64_unique κs a = determined_by (λ z h i. (h i, _))

put_f64_unique : AllowsOneAnswer put_f64.ended put_f64_reads.Learnt
put_f64_unique κs a = determined_by (λ z h i. (_, (h i, _)))
