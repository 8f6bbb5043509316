mod Views
mod Numbers
mod Carried
mod Items
mod Telling
mod Chained
