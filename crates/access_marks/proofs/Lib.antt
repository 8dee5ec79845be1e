-- The marks that the trees of loads and stores leave, the words of doubles, and transfers of one register.

mod Trees
mod Doubles
mod OneRegister
