-- That no two answers meet the promise.
mod Unique
