-- 01, "The AT processor": the numbers of the codes, and of a reply's first and second code, 0 for none.
use Rattle.std.specs.Prelude.{ℕ}
use Rattle.reply.specs.declared.Code.{Code}
use Rattle.reply.specs.declared.Code.TheVariants.{Ok, Connect, NoCarrier, Error, Identification, S12}
use Rattle.reply.specs.declared.Reply.{Reply}
use Rattle.reply.specs.declared.Reply.TheVariants.{None, One, Two}

-- 1 OK, 2 CONNECT 300, 3 NO CARRIER, 4 ERROR, 5 identification; 02, E6: 6 the S12 that the set then holds
abbrev pub number_of : Code → ℕ
number_of Ok = 1
number_of Connect = 2
number_of NoCarrier = 3
number_of Error = 4
number_of Identification = 5
number_of S12 = 6

abbrev pub first_of : Reply → ℕ
first_of None = 0
first_of (One c) = number_of c
first_of (Two c d) = number_of c

abbrev pub second_of : Reply → ℕ
second_of None = 0
second_of (One c) = 0
second_of (Two c d) = number_of d
